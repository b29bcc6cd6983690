use Rattle.std.proofs.Common.{refl}
use Rattle.buffa_fields.specs.Terms.{here, not_here}
use Rattle.sample_wide.proofs.day.DayMessageFields.take.Goals as goal

pub returns-then-has : goal.returns-then-has
returns-then-has c =
    let number = c.field_number-number.ensures in
    here _ (rw number at c.has.ensures) c.if-has.true (c.take.ensures, (refl, (refl, (refl, (refl, (refl, (refl, (refl, (refl, (refl, refl))))))))))

pub returns-then-has-2 : goal.returns-then-has-2
returns-then-has-2 c =
    let number = c.field_number-number.ensures in
    not_here _ (rw number at c.has.ensures) c.if-has.false (refl, here _ (rw number at c.has-else-has.ensures) c.if-has-2.true (c.take-then-has-2.ensures, (refl, (refl, (refl, (refl, (refl, (refl, (refl, (refl, refl))))))))))

pub returns-then-has-3 : goal.returns-then-has-3
returns-then-has-3 c =
    let number = c.field_number-number.ensures in
    not_here _ (rw number at c.has.ensures) c.if-has.false (refl, not_here _ (rw number at c.has-else-has.ensures) c.if-has-2.false (refl, here _ (rw number at c.has-else-has-2.ensures) c.if-has-3.true (c.take-then-has-3.ensures, (refl, (refl, (refl, (refl, (refl, (refl, (refl, refl))))))))))

pub returns-then-has-4 : goal.returns-then-has-4
returns-then-has-4 c =
    let number = c.field_number-number.ensures in
    not_here _ (rw number at c.has.ensures) c.if-has.false (refl, not_here _ (rw number at c.has-else-has.ensures) c.if-has-2.false (refl, not_here _ (rw number at c.has-else-has-2.ensures) c.if-has-3.false (refl, here _ (rw number at c.has-else-has-3.ensures) c.if-has-4.true (c.take-then-has-4.ensures, (refl, (refl, (refl, (refl, (refl, (refl, refl))))))))))

pub returns-then-has-5 : goal.returns-then-has-5
returns-then-has-5 c =
    let number = c.field_number-number.ensures in
    not_here _ (rw number at c.has.ensures) c.if-has.false (refl, not_here _ (rw number at c.has-else-has.ensures) c.if-has-2.false (refl, not_here _ (rw number at c.has-else-has-2.ensures) c.if-has-3.false (refl, not_here _ (rw number at c.has-else-has-3.ensures) c.if-has-4.false (refl, here _ (rw number at c.has-else-has-4.ensures) c.if-has-5.true (c.take-then-has-5.ensures, (refl, (refl, (refl, (refl, (refl, refl))))))))))

pub returns-then-has-6 : goal.returns-then-has-6
returns-then-has-6 c =
    let number = c.field_number-number.ensures in
    not_here _ (rw number at c.has.ensures) c.if-has.false (refl, not_here _ (rw number at c.has-else-has.ensures) c.if-has-2.false (refl, not_here _ (rw number at c.has-else-has-2.ensures) c.if-has-3.false (refl, not_here _ (rw number at c.has-else-has-3.ensures) c.if-has-4.false (refl, not_here _ (rw number at c.has-else-has-4.ensures) c.if-has-5.false (refl, here _ (rw number at c.has-else-has-5.ensures) c.if-has-6.true (c.take-then-has-6.ensures, (refl, (refl, (refl, (refl, refl))))))))))

pub returns-then-has-7 : goal.returns-then-has-7
returns-then-has-7 c =
    let number = c.field_number-number.ensures in
    not_here _ (rw number at c.has.ensures) c.if-has.false (refl, not_here _ (rw number at c.has-else-has.ensures) c.if-has-2.false (refl, not_here _ (rw number at c.has-else-has-2.ensures) c.if-has-3.false (refl, not_here _ (rw number at c.has-else-has-3.ensures) c.if-has-4.false (refl, not_here _ (rw number at c.has-else-has-4.ensures) c.if-has-5.false (refl, not_here _ (rw number at c.has-else-has-5.ensures) c.if-has-6.false (refl, here _ (rw number at c.has-else-has-6.ensures) c.if-has-7.true (c.take-then-has-7.ensures, (refl, (refl, (refl, refl))))))))))

pub returns-then-has-8 : goal.returns-then-has-8
returns-then-has-8 c =
    let number = c.field_number-number.ensures in
    not_here _ (rw number at c.has.ensures) c.if-has.false (refl, not_here _ (rw number at c.has-else-has.ensures) c.if-has-2.false (refl, not_here _ (rw number at c.has-else-has-2.ensures) c.if-has-3.false (refl, not_here _ (rw number at c.has-else-has-3.ensures) c.if-has-4.false (refl, not_here _ (rw number at c.has-else-has-4.ensures) c.if-has-5.false (refl, not_here _ (rw number at c.has-else-has-5.ensures) c.if-has-6.false (refl, not_here _ (rw number at c.has-else-has-6.ensures) c.if-has-7.false (refl, here _ (rw number at c.has-else-has-7.ensures) c.if-has-8.true (c.take-then-has-8.ensures, (refl, (refl, refl))))))))))

pub returns-then-has-9 : goal.returns-then-has-9
returns-then-has-9 c =
    let number = c.field_number-number.ensures in
    not_here _ (rw number at c.has.ensures) c.if-has.false (refl, not_here _ (rw number at c.has-else-has.ensures) c.if-has-2.false (refl, not_here _ (rw number at c.has-else-has-2.ensures) c.if-has-3.false (refl, not_here _ (rw number at c.has-else-has-3.ensures) c.if-has-4.false (refl, not_here _ (rw number at c.has-else-has-4.ensures) c.if-has-5.false (refl, not_here _ (rw number at c.has-else-has-5.ensures) c.if-has-6.false (refl, not_here _ (rw number at c.has-else-has-6.ensures) c.if-has-7.false (refl, not_here _ (rw number at c.has-else-has-7.ensures) c.if-has-8.false (refl, here _ (rw number at c.has-else-has-8.ensures) c.if-has-9.true (c.take-then-has-9.ensures, (refl, refl))))))))))

pub returns-then-has-10 : goal.returns-then-has-10
returns-then-has-10 c =
    let number = c.field_number-number.ensures in
    not_here _ (rw number at c.has.ensures) c.if-has.false (refl, not_here _ (rw number at c.has-else-has.ensures) c.if-has-2.false (refl, not_here _ (rw number at c.has-else-has-2.ensures) c.if-has-3.false (refl, not_here _ (rw number at c.has-else-has-3.ensures) c.if-has-4.false (refl, not_here _ (rw number at c.has-else-has-4.ensures) c.if-has-5.false (refl, not_here _ (rw number at c.has-else-has-5.ensures) c.if-has-6.false (refl, not_here _ (rw number at c.has-else-has-6.ensures) c.if-has-7.false (refl, not_here _ (rw number at c.has-else-has-7.ensures) c.if-has-8.false (refl, not_here _ (rw number at c.has-else-has-8.ensures) c.if-has-9.false (refl, here _ (rw number at c.has-else-has-9.ensures) c.if-has-10.true (c.take-then-has-10.ensures, refl))))))))))

pub returns-else-has-10 : goal.returns-else-has-10
returns-else-has-10 c =
    let number = c.field_number-number.ensures in
    not_here _ (rw number at c.has.ensures) c.if-has.false (refl, not_here _ (rw number at c.has-else-has.ensures) c.if-has-2.false (refl, not_here _ (rw number at c.has-else-has-2.ensures) c.if-has-3.false (refl, not_here _ (rw number at c.has-else-has-3.ensures) c.if-has-4.false (refl, not_here _ (rw number at c.has-else-has-4.ensures) c.if-has-5.false (refl, not_here _ (rw number at c.has-else-has-5.ensures) c.if-has-6.false (refl, not_here _ (rw number at c.has-else-has-6.ensures) c.if-has-7.false (refl, not_here _ (rw number at c.has-else-has-7.ensures) c.if-has-8.false (refl, not_here _ (rw number at c.has-else-has-8.ensures) c.if-has-9.false (refl, not_here _ (rw number at c.has-else-has-9.ensures) c.if-has-10.false (refl, c.keep.ensures))))))))))

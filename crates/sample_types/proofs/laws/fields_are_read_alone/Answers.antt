use Rattle.std.proofs.Common.{ℤ, ◌==◌, sym, subst}
use Rattle.std.proofs.lemmas.Bool.{eqb-true}
use Rattle.buffa_bytes.specs.Readings.{skip_at}
use Rattle.buffa_fields.specs.Schema.{AsksAsSaid, RefusesAsSaid, TakesAsSaid, TellsWrongType, Passed}
use Rattle.buffa_fields.specs.facts.SchemaFacts.{choose}
use Rattle.sample_types.proofs.NumberLemmas.{TwoIsRead, member_read, other_read, put_first, put_second}
use Rattle.sample_types.specs.Fields.{int32_field, skipped_field}
use Rattle.sample_types.specs.Numbers.{IsReadAlone}
use Rattle.sample_types.proofs.laws.fields_are_read_alone.Goals as goal

pub returns-clause-flat : goal.returns-clause-flat
unfolding AsksAsSaid Passed RefusesAsSaid TakesAsSaid TellsWrongType
returns-clause-flat c = λ d n old new w bs rest a b r h. choose (n == 1) h
    (λ is both.
    let one = eqb-true n 1 is in
    let took = both.0 in
    rw is (subst (λ z. IsReadAlone (int32_field z (λ x. x) w bs) old.value r new.value a b rest) one (member_read (λ x. x) d n old.value w bs a r new.value b rest took.0 took.1 took.3)))
    (λ differs both.
    let passed = both.1 in
    rw differs (subst (λ z. IsReadAlone (skipped_field d old.value n w bs) old.value r z a b rest) (sym both.0) (other_read old.value (skip_at d n w bs) r a b rest passed.0 passed.1)))

pub returns-clause-two : goal.returns-clause-two
unfolding AsksAsSaid Passed RefusesAsSaid TakesAsSaid TellsWrongType
returns-clause-two c = λ d n old new w bs rest a b r h.
    let was : ℤ × ℤ = (old.a, old.b) in
    choose (n == 1) h
    (λ is both.
    let took = both.0 in
    let read = member_read (put_first old.b) d n old.a w bs a r new.a b rest took.0 took.1 took.3 in
    rw is (subst (λ z. TwoIsRead (int32_field z (put_first old.b) w bs) was r (new.a, new.b) a b rest) (eqb-true n 1 is)
    (subst (λ z. TwoIsRead (int32_field n (put_first old.b) w bs) was r (new.a, z) a b rest) (sym both.1.0) read)))
    (λ differs both. rw differs (choose (n == 2) both.1
    (λ is again.
    let took = again.0 in
    let read = member_read (put_second old.a) d n old.b w bs a r new.b b rest took.0 took.1 took.3 in
    rw is (subst (λ z. TwoIsRead (int32_field z (put_second old.a) w bs) was r (new.a, new.b) a b rest) (eqb-true n 2 is)
    (subst (λ z. TwoIsRead (int32_field n (put_second old.a) w bs) was r (z, new.b) a b rest) (sym both.0) read)))
    (λ others again.
    let read = other_read was (skip_at d n w bs) r a b rest again.1.0 again.1.1 in
    rw others (subst (λ z. TwoIsRead (skipped_field d was n w bs) was r (z, new.b) a b rest) (sym both.0)
    (subst (λ z. TwoIsRead (skipped_field d was n w bs) was r (old.a, z) a b rest) (sym again.0) read)))))

pub returns-clause-keep : goal.returns-clause-keep
returns-clause-keep c = λ d n old new w bs rest a b r h. h

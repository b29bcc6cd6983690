-- What holds of an answer.
use Rattle.std.specs.Prelude.{◌≡◌, Result, Ok, Err, OnOk, OnErr, IfErr, IsOk}

pub OnOk-always : {T E : Type 0} {P : Type 0} (r : Result T E) → P → OnOk r P
OnOk-always (Ok v) h = h
OnOk-always (Err e) h = tt

pub OnErr-always : {T E : Type 0} {P : Type 0} (r : Result T E) → P → OnErr r P
OnErr-always (Ok v) h = tt
OnErr-always (Err e) h = h

pub OnOk-both : {T E : Type 0} {P Q R : Type 0} (r : Result T E) → (P → Q → R) → OnOk r P → OnOk r Q → OnOk r R
OnOk-both (Ok v) f h k = f h k
OnOk-both (Err e) f h k = h

pub IfErr-with : {T E : Type 0} {A : Type 0} {P Q : E → Type 0} (r : Result T E) → ((e : E) → A → P e → Q e) → OnErr r A → IfErr r P → IfErr r Q
IfErr-with (Ok v) f a h = h
IfErr-with (Err e) f a h = f e a h

pub IfErr-both : {T E : Type 0} {A : Type 0} {P Q R : E → Type 0} (r : Result T E) → ((e : E) → A → P e → Q e → R e) → OnErr r A → IfErr r P → IfErr r Q → IfErr r R
IfErr-both (Ok v) f a h k = h
IfErr-both (Err e) f a h k = f e a h k

pub not_ok : {T E : Type 0} (r : Result T E) (e : E) → r ≡ Err e → IsOk r → ⊥
not_ok (Ok v) e is h = cc
not_ok (Err d) e is h = cc

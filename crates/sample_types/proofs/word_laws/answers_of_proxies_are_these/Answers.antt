use Rattle.std.proofs.Common.{◌≡◌, ◌⊎◌, inl, inr, refl, sym, subst}
use Rattle.buffa_bytes.specs.declared.error.DecodeError.{DecodeError}
use Rattle.buffa_bytes.specs.declared.error.DecodeError.TheVariants.{ElementMemoryLimitExceeded, OutOfMemory, UnknownFieldLimitExceeded}
use Rattle.sample_types.specs.Passed.{IsShortage}
use Rattle.sample_types.proofs.word_laws.answers_of_proxies_are_these.Goals as goal

named : (f : DecodeError) → IsShortage f → (f ≡ OutOfMemory) ⊎ ((f ≡ UnknownFieldLimitExceeded) ⊎ (f ≡ ElementMemoryLimitExceeded))
named OutOfMemory h = inl refl
named UnknownFieldLimitExceeded h = inr (inl refl)
named ElementMemoryLimitExceeded h = inr (inr refl)
named _ h = absurd h

short : (f : DecodeError) → (f ≡ OutOfMemory) ⊎ ((f ≡ UnknownFieldLimitExceeded) ⊎ (f ≡ ElementMemoryLimitExceeded)) → IsShortage f
short f (inl h) = subst IsShortage (sym h) tt
short f (inr (inl h)) = subst IsShortage (sym h) tt
short f (inr (inr h)) = subst IsShortage (sym h) tt

pub returns-clause-short : goal.returns-clause-short
returns-clause-short c = λ f. (named f, short f)

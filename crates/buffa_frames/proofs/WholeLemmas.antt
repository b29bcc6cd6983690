-- Frame after frame.
use Rattle.std.proofs.Common.{◌≡◌, ℕ, List, [], ◌∷◌, ◌++◌, length, Bool, true, false, None, Some, refl, sym, ap, subst, ◌∙◌, arith, append_assoc, append-nil, length-append}
use Rattle.std.specs.Prelude.{IfSome, map}
use Rattle.std.specs.Io.KnownBytes.{Consumes, IsAtEnd}
use Rattle.std.proofs.KnownBytes.{Consumes-trans}
use Rattle.std.proofs.lemmas.List.{map_push, nil_from_length}
use Rattle.buffa_frames.specs.Frames.{AreFrames, IsFrame, TakesFrame}
use Rattle.buffa_frames.specs.Stream.{Fills, GivesNext, IsFrameWithin, ReadsOn, StreamBytes}

-- one frame more
pub frames_more : (bodies : List (List ℕ)) (bytes frame body : List ℕ) → AreFrames bodies bytes → IsFrame frame body → AreFrames (bodies ++ body ∷ []) (bytes ++ frame)
frames_more [] bytes frame body a h = (frame, [], h, ap (λ z. z ++ frame) a ∙ sym (append-nil frame), refl)
frames_more (b ∷ bs) bytes frame body (f, rest, k, e, more) h = (f, rest ++ frame, k, ap (λ z. z ++ frame) e ∙ append_assoc f rest frame, frames_more bs rest frame body more h)

pub fills_true : (maximum : ℕ) (held : List ℕ) (left : StreamBytes) (there : Bool) → there ≡ true → Fills maximum held left there → IsFrameWithin maximum held
fills_true maximum held left true e f = f
fills_true maximum held left false e f = cc

pub gives_body : (maximum limit : ℕ) (pending held body : List ℕ) (old left : StreamBytes) → limit ≡ maximum → ReadsOn pending held old left → IsFrameWithin limit held →
    ((b rest : List ℕ) → TakesFrame limit held b rest → body ≡ b) → GivesNext maximum pending old left (Some body)
gives_body maximum limit pending held body old left m r (b, (t, v, is), w) f =
    let same : body ≡ b = f b [] ((t, v, is ∙ ap (λ z. t ++ z) (sym (append-nil b))), w) in
    subst (λ z. GivesNext maximum pending old left (Some z)) (sym same) (held, (t, v, is), omega arith, r)

pub gives_none : (maximum : ℕ) (pending held : List ℕ) (old left : StreamBytes) → ReadsOn pending held old left → (held ≡ []) × IsAtEnd left → GivesNext maximum pending old left None
gives_none maximum pending held old left (read, is, c) (none, end) =
    let no_pending : pending ≡ [] = nil_from_length pending (omega (arith, ap length none, ap length is, length-append pending read)) in
    let no_read : read ≡ [] = nil_from_length read (omega (arith, ap length none, ap length is, length-append pending read)) in
    (no_pending, subst (λ z. Consumes old left z) no_read c, end)

-- these bodies were read, behind what was held at first
pub record HaveCome (pending : List ℕ) (old left : StreamBytes) (bodies : List (List ℕ)) : Type 0 where
  pub bytes : List ℕ
  pub reads : ReadsOn pending bytes old left
  pub frames : AreFrames bodies bytes

-- none was read yet, or they were, and nothing is held
pub data Come (first pending : List ℕ) (old left : StreamBytes) (bodies : List (List ℕ)) : Type 0 where
  none : pending ≡ first → bodies ≡ [] → old ≡ left → Come first pending old left bodies
  some : pending ≡ [] → HaveCome first old left bodies → Come first pending old left bodies

come_again : (first frame : List ℕ) (old now new : StreamBytes) (bodies : List (List ℕ)) (body : List ℕ) → HaveCome first old now bodies → ReadsOn [] frame now new → IsFrame frame body → HaveCome first old new (bodies ++ body ∷ [])
come_again first frame old now new bodies body h (read, is, c) f =
    let (before, whole, d) = h.reads in
    record {
      bytes = h.bytes ++ frame;
      reads = (before ++ frame, ap (λ z. z ++ frame) whole ∙ append_assoc first before frame, Consumes-trans old now new before frame d (subst (λ z. Consumes now new z) (sym is) c));
      frames = frames_more bodies h.bytes frame body h.frames f;
    }

pub come_more : (first pending : List ℕ) (maximum : ℕ) (old now new : StreamBytes) (bodies : List (List ℕ)) (body : List ℕ) → Come first pending old now bodies → GivesNext maximum pending now new (Some body) → HaveCome first old new (bodies ++ body ∷ [])
come_more first pending maximum old now new bodies body (none e k s) (frame, f, w, r) =
    let reads : ReadsOn first frame old new = subst (λ z. ReadsOn first frame z new) (sym s) (subst (λ z. ReadsOn z frame now new) e r) in
    subst (λ z. HaveCome first old new (z ++ body ∷ [])) (sym k) (record { bytes = frame; reads = reads; frames = (frame, [], f, sym (append-nil frame), refl) })
come_more first pending maximum old now new bodies body (some e h) (frame, f, w, r) =
    come_again first frame old now new bodies body h (subst (λ z. ReadsOn z frame now new) e r) f

whole_of : (a b : StreamBytes) (first bytes read : List ℕ) (bodies : List (List ℕ)) → Consumes a b read → IsAtEnd b → bytes ≡ first ++ read → AreFrames bodies bytes → IfSome a (λ xs. AreFrames bodies (first ++ xs))
whole_of None b first bytes read bodies c end is f = tt
whole_of (Some xs) None first bytes read bodies c end is f = absurd c
whole_of (Some xs) (Some ys) first bytes read bodies c end is f =
    let all : xs ≡ read = c ∙ ap (λ z. read ++ z) end ∙ append-nil read in
    subst (λ z. AreFrames bodies z) (is ∙ ap (λ z. first ++ z) (sym all)) f

pub come_whole : (first pending : List ℕ) (maximum : ℕ) (old now new : StreamBytes) (bodies : List (List ℕ)) → Come first pending old now bodies → GivesNext maximum pending now new None → IfSome old (λ xs. AreFrames bodies (first ++ xs))
come_whole first pending maximum old now new bodies (none e k s) (nothing, c, end) =
    let reads : Consumes old new [] = subst (λ z. Consumes z new []) (sym s) c in
    let empty : first ≡ [] = sym e ∙ nothing in
    whole_of old new first [] [] bodies reads end (sym (append-nil first ∙ empty)) (subst (λ z. AreFrames z []) (sym k) refl)
come_whole first pending maximum old now new bodies (some e h) (nothing, c, end) =
    let (before, whole, d) = h.reads in
    whole_of old new first h.bytes (before ++ []) bodies (Consumes-trans old now new before [] d c) end (whole ∙ ap (λ z. first ++ z) (sym (append-nil before))) h.frames

-- ---- the same of what a vector holds

pub come_start : {V : Type 0} (view : V → List ℕ) (first : List ℕ) (old : StreamBytes) (xs : List V) → xs ≡ [] → Come first first old old (map view xs)
come_start view first old xs e = none refl (ap (λ z. map view z) e) refl

pub come_on : {V : Type 0} (view : V → List ℕ) (first pending after : List ℕ) (maximum : ℕ) (old now new : StreamBytes) (xs ys : List V) (x : V) → Come first pending old now (map view xs) → GivesNext maximum pending now new (Some (view x)) →
    ys ≡ xs ++ x ∷ [] → after ≡ [] → Come first after old new (map view ys)
come_on view first pending after maximum old now new xs ys x c h e n =
    some n (subst (λ z. HaveCome first old new z) (sym (ap (λ z. map view z) e ∙ map_push view xs x)) (come_more first pending maximum old now new (map view xs) (view x) c h))

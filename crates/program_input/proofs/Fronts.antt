-- Where reading stands after each read, and what the bytes that were read decide. Assumes nothing.
use lib.Seq.{take-add, take-append-le, length-take-le}
use native.Mathlib.Omega.{arith}
use Rattle.std.proofs.Common.{◌≡◌, ℕ, ◌+◌, ◌≤◌, List, ◌++◌, length, take, drop, sym, ap, subst, ◌∙◌, append-nil, take_all, IfSome, None, Some}
use Rattle.std.specs.declared.option.Option.{Option}
use Rattle.std.specs.Io.KnownBytes.{Consumes, IsAtEnd}
use Rattle.std.proofs.KnownBytes.{Consumes-trans}
use Rattle.program_input.specs.declared.Front.{Front}
use Rattle.program_input.specs.declared.Front.TheVariants.{Open, Ended}
use Rattle.program_input.specs.Input.{front_count, Stopped, MayBe}

-- the bytes that a reader has left, where they are known: those read so far, and those of one read more
pub known-more : (old mid new : Option (List ℕ)) (n k m : ℕ) (before after : List ℕ) → Consumes old mid (take n before)
    → take n after ≡ take n before → Consumes mid new (take k (drop n after)) → n + k ≡ m → Consumes old new (take m after)
known-more old mid new n k m before after p stays q e =
    subst (Consumes old new) (ap (λ l. l ++ take k (drop n after)) (sym stays) ∙ sym (take-add n k after) ∙ ap (λ i. take i after) e) (Consumes-trans old mid new _ _ p q)

-- the list is full
pub known-open : (old new : Option (List ℕ)) (n : ℕ) (input : List ℕ) → n ≤ length input → Consumes old new (take n input)
    → IfSome old (λ stream. MayBe (Open n) input stream)
known-open None new n input h p = tt
known-open (Some xs) None n input h p = absurd p
known-open (Some xs) (Some ys) n input h p =
    let whole : length (take n input) ≡ n = length-take-le n input h in
    ap (take n) p ∙ take-append-le n (take n input) ys (omega (arith, whole)) ∙ take_all n (take n input) (omega (arith, whole))

-- the input ended
known-ended : (old new : Option (List ℕ)) (n : ℕ) (input : List ℕ) → Consumes old new (take n input) → IsAtEnd new
    → IfSome old (λ stream. MayBe (Ended n) input stream)
known-ended None new n input p q = tt
known-ended (Some xs) None n input p q = absurd p
known-ended (Some xs) (Some ys) n input p q = p ∙ ap (λ l. take n input ++ l) q ∙ append-nil (take n input)

-- what is made of the bytes read is made of each stream that the input may be: the input's end was seen, or a full list holds the bytes that
-- decide it
pub front-decides : {A : Type 0} (made : List ℕ → A) (decisive : ℕ) → ((n : ℕ) (bs : List ℕ) → decisive ≤ n → made (take n bs) ≡ made bs)
    → (front : Front) (input : List ℕ) → Stopped (length input) front → decisive ≤ length input
    → (a : A) → a ≡ made (take (front_count front) input) → (stream : List ℕ) → MayBe front input stream → a ≡ made stream
front-decides made decisive decides (Open n) input s h a p stream m = p ∙ sym (ap made m) ∙ decides n stream (omega arith)
front-decides made decisive decides (Ended n) input s h a p stream m = p ∙ sym (ap made m)

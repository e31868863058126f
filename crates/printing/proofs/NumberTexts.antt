-- The text of one number more. Assumes nothing.
use Rattle.std.proofs.Common.{◌≡◌, ℕ, ◌+◌, ◌<◌, List, [], ◌∷◌, ◌++◌, length, take, slice_index, refl, sym, ap, ◌∙◌, append_assoc, append-nil}
use Rattle.std.proofs.lemmas.List.{take_more}
use Rattle.printing.specs.Texts.{number_text, numbers_text}

pub numbers-append : (ns ms : List ℕ) → numbers_text (ns ++ ms) ≡ numbers_text ns ++ numbers_text ms
unfolding numbers_text
numbers-append [] ms = refl
numbers-append (n ∷ ns) ms = ap (λ t. number_text n ++ t) (numbers-append ns ms) ∙ sym (append_assoc (number_text n) (numbers_text ns) (numbers_text ms))

pub numbers-more : (ns : List ℕ) (i : ℕ) → i < length ns → numbers_text (take i ns) ++ number_text (slice_index ns i) ≡ numbers_text (take (i + 1) ns)
unfolding numbers_text
numbers-more ns i h =
    sym (ap numbers_text (take_more ns i 0 h) ∙ numbers-append (take i ns) (slice_index ns i ∷ []) ∙ ap (λ t. numbers_text (take i ns) ++ t) (append-nil (number_text (slice_index ns i))))

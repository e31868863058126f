-- Numbers and floats read back from the place at which their bytes stand, and what stands after them. Assumes nothing.
-- Holds: field_back, drop-on, read-each, numbers-back, float_back, floats-back, floats-parts
use mathlib.Core.Path.{◌≡◌, refl, sym, ap, ap₂, ◌∙◌}
use Prim.Native.Nat.{ℕ, suc, ◌+◌, ◌*◌, ◌^◌, ◌<◌}
use native.Mathlib.Nat.{mul-zero}
use native.Mathlib.Omega.{arith}
use mathlib.Core.List.{List, [], ◌∷◌, ◌++◌, map, append_assoc}
use lib.ListN.{length, drop}
use lib.Seq.{drop_at, drop-drop}
use lib.Ieee.{Float, binary64, to_bits, of_bits}
use lib.Ieee.Bits.{of_bits-to_bits, to_bits-lt}
use Rattle.lists.specs.Lists.{from, joined}
use Rattle.lists.specs.Ascends.{All}
use Rattle.lists.proofs.Joined.{joined-map-snoc}
use Rattle.formats.specs.Bytes.{little, field, bytes_of, number_size, number_at, numbers_at, number_bytes, numbers_bytes, float_size, float_at, floats_at, float_bytes, floats_bytes}
use Rattle.bytes_out.proofs.Bytes.{length-bytes}
use Rattle.bytes_out.proofs.Back.{little-back}
use Rattle.stored_laws.specs.Writable.{NumberFits, FloatFits}

-- ---- one field
pub field_back : (k n at : ℕ) (bs rest : List ℕ) → n < 256 ^ k → drop at bs ≡ bytes_of k n ++ rest → field k at bs ≡ n
field_back k n at bs rest h e = ap (little k) e ∙ little-back k n rest h

-- what stands after m bytes
pub drop-on : (at m : ℕ) (bs xs rest : List ℕ) → length xs ≡ m → drop at bs ≡ xs ++ rest → drop (at + m) bs ≡ rest
drop-on at m bs xs rest l e = sym (drop-drop m at bs) ∙ ap (drop m) e ∙ drop_at xs rest m l

-- ---- records of one size, one after the other
module _ {A : Type 0} (P : A → Type 0) (size : ℕ) (write : A → List ℕ) (wide : (x : A) → P x → length (write x) ≡ size) where
  pub read-each : (place : ℕ → ℕ) (read : ℕ → A) (bs : List ℕ)
      → ((i : ℕ) → place (suc i) ≡ place i + size)
      → ((i : ℕ) (x : A) (rest : List ℕ) → P x → drop (place i) bs ≡ write x ++ rest → read i ≡ x)
      → (xs : List A) (i : ℕ) (rest : List ℕ) → All P xs → drop (place i) bs ≡ joined (map write xs) ++ rest → map read (from i (length xs)) ≡ xs
  unfolding joined All from
  read-each place read bs step one [] i rest h e = refl
  read-each place read bs step one (x ∷ xs) i rest h e =
      let f : drop (place i) bs ≡ write x ++ (joined (map write xs) ++ rest) = e ∙ append_assoc (write x) (joined (map write xs)) rest in
      let g : drop (place (suc i)) bs ≡ joined (map write xs) ++ rest =
      ap (λ (k : ℕ). drop k bs) (step i) ∙ drop-on (place i) size bs (write x) (joined (map write xs) ++ rest) (wide x h.0) f in
      ap₂ (λ (y : A) (ys : List A). y ∷ ys) (one i x (joined (map write xs) ++ rest) h.0 f) (read-each place read bs step one xs (suc i) rest h.1 g)

start : (k at : ℕ) → at + k * 0 ≡ at
start k at = omega (arith, mul-zero k)

-- ---- counts and rows
pub numbers-back : (ns : List ℕ) (at : ℕ) (bs rest : List ℕ) → All NumberFits ns → drop at bs ≡ numbers_bytes ns ++ rest → numbers_at (length ns) at bs ≡ ns
unfolding numbers_bytes numbers_at
numbers-back ns at bs rest h e =
    read-each NumberFits number_size number_bytes (λ n s. length-bytes number_size n) (λ i. at + number_size * i) (λ i. number_at (at + number_size * i) bs) bs
    (λ i. omega arith)
    (λ i n more s d. field_back number_size n (at + number_size * i) bs more s d)
    ns 0 rest h (ap (λ (k : ℕ). drop k bs) (start number_size at) ∙ e)

-- ---- floats
pub float_back : (x : Float) (at : ℕ) (bs rest : List ℕ) → FloatFits x → drop at bs ≡ float_bytes x ++ rest → float_at at bs ≡ x
float_back x at bs rest h e = ap (of_bits binary64) (field_back float_size (to_bits binary64 x) at bs rest (to_bits-lt binary64 x h) e) ∙ of_bits-to_bits binary64 x h

pub floats-back : (xs : List Float) (at : ℕ) (bs rest : List ℕ) → All FloatFits xs → drop at bs ≡ floats_bytes xs ++ rest → floats_at (length xs) at bs ≡ xs
unfolding floats_bytes floats_at
floats-back xs at bs rest h e =
    read-each FloatFits float_size float_bytes (λ x s. length-bytes float_size (to_bits binary64 x)) (λ i. at + float_size * i) (λ i. float_at (at + float_size * i) bs) bs
    (λ i. omega arith)
    (λ i x more s d. float_back x (at + float_size * i) bs more s d)
    xs 0 rest h (ap (λ (k : ℕ). drop k bs) (start float_size at) ∙ e)

-- one float more, and what stands after it
pub floats-parts : (xs : List Float) (x : Float) (rest : List ℕ) → floats_bytes (xs ++ x ∷ []) ++ rest ≡ floats_bytes xs ++ (float_bytes x ++ rest)
unfolding floats_bytes
floats-parts xs x rest =
    ap (λ (l : List ℕ). l ++ rest) (joined-map-snoc float_bytes xs x) ∙ append_assoc (joined (map float_bytes xs)) (float_bytes x) rest

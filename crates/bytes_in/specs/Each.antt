-- Numbers and floats one after the other are each of them: the laws of the trait of fields. Assumes nothing.
use Rattle.std.specs.Prelude.{◌≡◌, ℕ, ◌+◌, ◌*◌, List, map, refl}
use Rattle.lists.specs.Lists.{from}
use Rattle.formats.specs.Bytes.{number_size, number_at, numbers_at, float_size, float_at, floats_at}

pub numbers-each : (n at : ℕ) (bs : List ℕ) → numbers_at n at bs ≡ map (λ i. number_at (at + number_size * i) bs) (from 0 n)
unfolding numbers_at
numbers-each n at bs = refl

pub floats-each : (n at : ℕ) (bs : List ℕ) → floats_at n at bs ≡ map (λ i. float_at (at + float_size * i) bs) (from 0 n)
unfolding floats_at
floats-each n at bs = refl

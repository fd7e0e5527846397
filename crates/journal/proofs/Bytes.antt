-- Bytes put together, and bytes written.
use Prim.Native.Nat.{ℕ, zero, suc, ◌<◌}
use native.Mathlib.Omega.{arith}
use mathlib.Core.List.{List, [], ◌∷◌, ◌++◌}
use lib.ListN.{set}
use Rattle.crc.specs.Bytes.{AreBytes}
use Rattle.crc.specs.Crc.{crc32}
use Rattle.journal.specs.Journal.{four_bytes, bytes_of, sealed}

pub no_bytes : AreBytes []
no_bytes i = omega arith

pub set_bytes : (l : List ℕ) (i v : ℕ) → AreBytes l → v < 256 → AreBytes (set l i v)
set_bytes [] i v x k j = x j
set_bytes (a ∷ l) zero v x k zero = k
set_bytes (a ∷ l) zero v x k (suc j) = x (suc j)
set_bytes (a ∷ l) (suc i) v x k zero = x zero
set_bytes (a ∷ l) (suc i) v x k (suc j) = set_bytes l i v (λ n. x (suc n)) k j

pub both_bytes : (xs ys : List ℕ) → AreBytes xs → AreBytes ys → AreBytes (xs ++ ys)
both_bytes [] ys a b i = b i
both_bytes (x ∷ xs) ys a b zero = a zero
both_bytes (x ∷ xs) ys a b (suc i) = both_bytes xs ys (λ k. a (suc k)) b i

-- What is written is bytes.
pub four_are_bytes : (n : ℕ) → AreBytes (four_bytes n)
unfolding four_bytes
four_are_bytes n zero = omega arith
four_are_bytes n (suc zero) = omega arith
four_are_bytes n (suc (suc zero)) = omega arith
four_are_bytes n (suc (suc (suc zero))) = omega arith
four_are_bytes n (suc (suc (suc (suc i)))) = omega arith

pub all_bytes : (l : List ℕ) → AreBytes (bytes_of l)
unfolding bytes_of
all_bytes [] = no_bytes
all_bytes (n ∷ l) = both_bytes (four_bytes n) (bytes_of l) (four_are_bytes n) (all_bytes l)

pub sealed_bytes : (l : List ℕ) → AreBytes l → AreBytes (sealed l)
sealed_bytes l a = both_bytes l (four_bytes (crc32 l)) a (four_are_bytes (crc32 l))

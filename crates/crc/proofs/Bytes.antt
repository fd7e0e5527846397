-- Parts of bytes are bytes.
use Prim.Native.Nat.{ℕ, zero, suc, ◌+◌}
use native.Mathlib.Omega.{arith}
use mathlib.Core.List.{List, [], ◌∷◌}
use lib.ListN.{take, drop}
use lib.Seq.{get_or-drop}
use Rattle.crc.specs.Bytes.{AreBytes}

pub take_bytes : (n : ℕ) (l : List ℕ) → AreBytes l → AreBytes (take n l)
take_bytes zero l x i = omega arith
take_bytes (suc n) [] x i = x i
take_bytes (suc n) (a ∷ l) x zero = x zero
take_bytes (suc n) (a ∷ l) x (suc i) = take_bytes n l (λ j. x (suc j)) i

pub drop_bytes : (n : ℕ) (l : List ℕ) → AreBytes l → AreBytes (drop n l)
drop_bytes n l x i = rw get_or-drop (x (n + i))

-- What refuses a mesh before a call looks at its own arguments.
use Rattle.std.specs.Prelude.{ℕ, not, [], ◌∷◌, leb}
use Rattle.rules.specs.Calls.{first_of, ◌if◌}
use Rattle.rules.specs.Sound.{is_sound}
use Rattle.rules.specs.Tables.{Mesh, tables_agree}

-- The first refusal of a mesh, by every call but load.
abbrev pub standing : Mesh → ℕ
standing m = first_of (1 if not (tables_agree m) ∷ 7 if not (is_sound m) ∷ [])

-- The refusal of a call that names slot i of the first n: `lock_refusal` and `position_refusal`.
abbrev pub slot_refusal : ℕ → ℕ → Mesh → ℕ
slot_refusal n i m = first_of (1 if not (tables_agree m) ∷ 7 if not (is_sound m) ∷ 8 if leb n i ∷ [])

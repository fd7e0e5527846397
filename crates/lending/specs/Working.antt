-- What refuses a call that works in spare tables before the work.
use Rattle.std.specs.Prelude.{ℕ, Bool, not, [], ◌∷◌}
use Rattle.rules.specs.Calls.{first_of, ◌if◌}
use Rattle.rules.specs.Sound.{is_sound}
use Rattle.rules.specs.Spares.{Spares, same_sizes}
use Rattle.rules.specs.Tables.{Mesh, tables_agree}

-- Its first refusal, where `fits` says whether its own arguments fit.
abbrev pub work_refusal : Bool → Spares → Mesh → ℕ
work_refusal fits s m =
    first_of (1 if not (tables_agree m) ∷ 17 if not (same_sizes s m) ∷ 18 if not fits ∷ 7 if not (is_sound m) ∷ [])

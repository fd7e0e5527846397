-- What refuses a call by what was seen of the tables refuses it by the tables.
use mathlib.Core.Bool.{Bool}
use mathlib.Core.Path.{◌≡◌, sym, ap, ◌∙◌}
use Prim.Native.Nat.{ℕ}
use Rattle.rules.specs.Spares.{Spares}
use Rattle.tables.specs.declared.Counts.{Counts}
use Rattle.tables.specs.Lent.{mesh_with}
use Rattle.tables.specs.Standing.{standing}
use Rattle.lending.specs.Working.{work_refusal}

module _ (n : Counts) (fits : Bool) {v t w s : Spares} {bad r : ℕ} (e : v ≡ t) (q : w ≡ s)
    (f : (m : Counts) → bad ≡ standing (mesh_with m v) → r ≡ work_refusal fits w (mesh_with m v)) where
  -- Where the mesh was seen to stand or to be refused.
  pub by_seen : bad ≡ standing (mesh_with n v) → r ≡ work_refusal fits s (mesh_with n t)
  by_seen b = f n b ∙ (λ i. work_refusal fits (q i) (mesh_with n (e i)))

  -- Where it is known to.
  pub by_tables : bad ≡ standing (mesh_with n t) → r ≡ work_refusal fits s (mesh_with n t)
  by_tables b = by_seen (b ∙ ap (λ (y : Spares). standing (mesh_with n y)) (sym e))

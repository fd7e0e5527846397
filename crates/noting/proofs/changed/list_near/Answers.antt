-- `noting::changed::list_near` meets its contract.
use mathlib.Core.Logic.{inl, inr, ⊎_elim}
use Prim.Native.Nat.{◌+◌, ◌*◌}
use native.Mathlib.Omega.{arith}
use Rattle.noting.proofs.Inserting.{adds_as, adds_then}
use Rattle.noting.proofs.changed.list_near.Goals as goal

pub returns-then-across : goal.returns-then-across
returns-then-across c = (
  adds_as (λ y e. inl e) (λ y z. ⊎_elim (λ e. e) (λ a. absurd (a.0 c.if-across.true)) z) c.insert-own.ensures.0,
  omega (arith, c.insert-own.ensures.1),
)

pub insert-requires : goal.insert-requires
insert-requires c = (
  c.insert-own.ensures.0.rises,
  omega (arith, c.insert-own.ensures.1, c.requires.1),
  omega (arith, c.type_inv.links (3 * c.args.x + 1)),
)

pub returns : goal.returns
returns c = (
  adds_as (λ y z. ⊎_elim (λ e. inl e) (λ e. inr (c.if-across.false, e)) z)
      (λ y z. ⊎_elim (λ e. inl e) (λ a. inr a.1) z)
      (adds_then c.insert-own.ensures.0 c.insert.ensures.0),
  omega (arith, c.insert-own.ensures.1, c.insert.ensures.1),
)

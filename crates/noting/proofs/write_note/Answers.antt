-- `noting::write_note` meets its contract.
use native.Mathlib.Omega.{arith}
use lib.ListN.{length}
use mathlib.Core.Path.{◌≡◌, refl, sym, ◌∙◌}
use Rattle.tables.specs.Lent.{seen, mesh_with}
use Rattle.noting.proofs.Writing.{nines_begin, nines_on, note_written}
use Rattle.noting.proofs.write_note.Goals as goal

pub loop-i-init : goal.loop-i-init
loop-i-init c = (refl, λ n list H. nines_begin _ list _)

pub loop-i-preserved : goal.loop-i-preserved
loop-i-preserved c = (
  c.write_nine.auto.note ∙ c.loop-i.invariant.0,
  λ n list H.
      nines_on _ list _ c.loop-i.i _ (omega (arith, H.size)) (sym (H.entries c.loop-i.i (omega arith)))
      (c.loop-i.invariant.1 n list H) (c.write_nine.ensures n),
)

pub returns : goal.returns
returns c list H =
    let e : c.loop-i.i ≡ length c.args.slots.now = omega arith in
    note_written c.args.t c.args.counts.vertices c.args.counts.triangles
    (mesh_with c.args.counts (seen c.args.view.now)) list
    c.args.note.now (length c.args.slots.now) c.write_head.ensures
    (rw e at (c.loop-i.invariant.1 c.args.counts list H))

-- `noting::write_nine` meets its contract.
use mathlib.Core.Path.{◌≡◌, ◌∙◌}
use native.Mathlib.Omega.{arith}
use lib.ListN.{length, length-set}
use Rattle.tables.specs.Lent.{seen, mesh_with}
use Rattle.noting.proofs.Writing.{nine_written}
use Rattle.noting.proofs.write_nine.Goals as goal

pub copy_four-requires : goal.copy_four-requires
copy_four-requires c =
    (omega (arith, c.requires.0.corners, c.requires.2), simp length-set (omega (arith, c.requires.3)))

pub copy_four-requires-2 : goal.copy_four-requires-2
copy_four-requires-2 c =
    let long : length c.copy_four.new.note ≡ length c.args.note.now = c.copy_four.auto.note ∙ length-set c.args.note.now _ _ in
    (omega (arith, c.requires.0.links, c.requires.2), omega (arith, long, c.requires.3))

pub bounds-note-at-2 : goal.bounds-note-at-2
bounds-note-at-2 c =
    let long : length c.copy_four.new.note ≡ length c.args.note.now = c.copy_four.auto.note ∙ length-set c.args.note.now _ _ in
    let links_long : length c.copy_four-2.new.note ≡ length c.args.note.now = c.copy_four-2.auto.note ∙ long in
    omega (arith, links_long, c.requires.3)

pub bounds-note-at-3 : goal.bounds-note-at-3
bounds-note-at-3 c =
    let long : length c.copy_four.new.note ≡ length c.args.note.now = c.copy_four.auto.note ∙ length-set c.args.note.now _ _ in
    let links_long : length c.copy_four-2.new.note ≡ length c.args.note.now = c.copy_four-2.auto.note ∙ long in
    simp length-set (omega (arith, links_long, c.requires.3))

pub shape_of-note : goal.shape_of-note
shape_of-note c =
    let long : length c.copy_four.new.note ≡ length c.args.note.now = c.copy_four.auto.note ∙ length-set c.args.note.now _ _ in
    let links_long : length c.copy_four-2.new.note ≡ length c.args.note.now = c.copy_four-2.auto.note ∙ long in
    simp length-set links_long

pub returns : goal.returns
returns c n =
    let args = c.args in
    nine_written (mesh_with n (seen args.view.now))
    args.s args.at args.note.now c.copy_four.ensures c.copy_four-2.ensures

-- `rings::write_ring` meets its contract.
use Prim.Native.Nat.{ℕ, ◌+◌}
use native.Mathlib.Omega.{arith}
use mathlib.Core.List.{List}
use mathlib.Core.Path.{◌≡◌, sym, ◌∙◌}
use lib.ListN.{get_or, set}
use Rattle.rules.specs.Tables.{next}
use Rattle.rings.proofs.Walk.{OnWalk, EntryIs, on_walk, entry_at, walks_on, ends, ends_at_boundary}
use Rattle.rings.proofs.Buffer.{Written, unwritten, writes, all_written}
use Rattle.rings.proofs.write_ring.Goals as goal

-- The walk stands at h, the n entries before are written, and the target of h is the next one.
module _ {t s n h q : ℕ} {corners links before buffer : List ℕ}
    (so_far : OnWalk t links s n h × Written t corners links s before buffer n) (at_next : q ≡ next h) where
  entry : EntryIs t corners links s n (get_or corners q 0)
  entry = entry_at so_far.0 corners q at_next

  written : Written t corners links s before (set buffer n (get_or corners q 0)) (n + 1)
  written = writes so_far.1 entry

pub loop-buffer-init : goal.loop-buffer-init
loop-buffer-init c =
    (on_walk _ _ _ (omega arith), unwritten _ _ _ _ _)

pub bounds-buffer-n : goal.bounds-buffer-n
bounds-buffer-n c =
    let one = entry c.loop-buffer.invariant c.next-e.ensures in
    omega (arith, c.requires.by_index.2, one.has c.requires.by_index.0 c.requires.by_index.1, c.loop-buffer.invariant.1.size)

pub bounds-buffer-n-then-k : goal.bounds-buffer-n-then-k
bounds-buffer-n-then-k c =
    let last = ends_at_boundary c.loop-buffer.invariant.0 _ c.previous-p.ensures (omega arith) c.if-k.true c.args.corners.now in
    let done = written c.loop-buffer.invariant c.next-e.ensures in
    omega (arith, c.requires.by_index.2, last.1.has c.requires.by_index.0 c.requires.by_index.1, done.size)

pub loop-buffer-preserved : goal.loop-buffer-preserved
loop-buffer-preserved c =
    let e = sym c.goes_on.ensures ∙ c.if-not-goes_on.false in
    (walks_on c.loop-buffer.invariant.0 _ c.previous-p.ensures e, written c.loop-buffer.invariant c.next-e.ensures)

pub returns-then-k : goal.returns-then-k
returns-then-k c =
    let last = ends_at_boundary c.loop-buffer.invariant.0 _ c.previous-p.ensures (omega arith) c.if-k.true c.args.corners.now in
    all_written (writes (written c.loop-buffer.invariant c.next-e.ensures) last.1) last.0

pub returns-then-not-goes_on : goal.returns-then-not-goes_on
returns-then-not-goes_on c =
    let e = sym c.goes_on.ensures ∙ c.if-not-goes_on.true in
    all_written (written c.loop-buffer.invariant c.next-e.ensures)
    (ends c.loop-buffer.invariant.0 _ c.previous-p.ensures e c.if-k.false _)

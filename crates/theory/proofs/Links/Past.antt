-- Tables that agree from a slot on.
use mathlib.Core.Path.{◌≡◌, refl, ap, ◌∙◌}
use mathlib.Core.Logic.{◌⊎◌, inl, inr}
use mathlib.Core.List.{List}
use Prim.Native.Nat.{ℕ, ◌+◌, ◌*◌, ◌≤◌, ◌<◌}
use native.Mathlib.Omega.{arith}
use lib.ListN.{length, set, drop}
use lib.Seq.{drop-set-lt, set_out}
use Rattle.theory.proofs.Links.Manifold.{Joined}
use Rattle.rules.specs.Tables.{Topology, boundary, link, put_three}

-- From triangle slot b on, the tables of n are those of m.
pub record Past (b : ℕ) (m n : Topology) : Type 0 where
  pub corners : drop (3 * b) n.corners ≡ drop (3 * b) m.corners
  pub links : drop (3 * b) n.links ≡ drop (3 * b) m.links
  pub generations : drop b n.generations ≡ drop b m.generations

pub past_same : (b : ℕ) (m : Topology) → Past b m m
past_same b m = record { corners = refl; links = refl; generations = refl }

pub past_on : {b : ℕ} {m k n : Topology} → Past b m k → Past b k n → Past b m n
past_on A B = record {
  corners = B.corners ∙ A.corners;
  links = B.links ∙ A.links;
  generations = B.generations ∙ A.generations;
}

-- A triangle written below slot b.
pub drop_put : {A : Type 0} (l : List A) (t b : ℕ) (x : A × A × A) → t < b
    → drop (3 * b) (put_three t x l) ≡ drop (3 * b) l
drop_put l t b x i =
    drop-set-lt (3 * b) (set (set l (3 * t) x.0) (3 * t + 1) x.1) (3 * t + 2) x.2 (omega arith)
    ∙ drop-set-lt (3 * b) (set l (3 * t) x.0) (3 * t + 1) x.1 (omega arith)
    ∙ drop-set-lt (3 * b) l (3 * t) x.0 (omega arith)

-- A link told to a partner below slot b, or to the boundary.
pub drop_told : (l : List ℕ) (b k x : ℕ) → length l ≤ boundary → (k ≡ boundary) ⊎ (k < 3 * b)
    → drop (3 * b) (set l k x) ≡ drop (3 * b) l
drop_told l b k x few (inl e) = ap (drop (3 * b)) (set_out l k x (omega arith))
drop_told l b k x few (inr i) = drop-set-lt (3 * b) l k x i

pub joined_below : (m : Topology) (b h : ℕ) → m.triangles ≤ b → Joined m h → (link m h ≡ boundary) ⊎ (link m h < 3 * b)
joined_below m b h i (inl e) = inl e
joined_below m b h i (inr M) = inr (omega (arith, M.in_use))

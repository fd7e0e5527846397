-- A triangle that is not written anew stands, onward and back.
use mathlib.Core.Path.{◌≡◌, refl, sym, ap, ◌∙◌, subst}
use mathlib.Core.Logic.{◌⊎◌, inl, inr}
use Prim.Native.Nat.{ℕ, ◌+◌, ◌*◌, ◌/◌, ◌<◌}
use native.Mathlib.Omega.{arith}
use lib.IntN.{pos}
use lib.ListN.{get_or}
use Rattle.theory.proofs.Splits.Following.{leads_none, leads_on, place_on}
use Rattle.rules.specs.Actions.{new_place}
use Rattle.rules.specs.Promises.{Still, LinksFollow, LinksKept, onward, back, through, Stands}
use Rattle.rules.specs.Sound.{Sound}
use Rattle.rules.specs.Tables.{Topology, Mesh, link, generation, coordinate}

-- ---- links

pub follow_none : {x : ℕ} {m n : Topology} → n ≡ m → LinksFollow x m n
follow_none {x} {m} e =
    rw e (record { leads = leads_none m; unwritten = refl; links = λ i b. refl })

pub follow_on : {x : ℕ} {m k n : Topology} → LinksFollow x m k → LinksFollow x k n → LinksFollow x m n
follow_on {x} {m} A B = record {
  leads = leads_on A.leads B.leads;
  unwritten = B.unwritten ∙ A.unwritten;
  links = λ i b.
      B.links i b ∙ ap (new_place B.leads) (A.links i b) ∙ place_on A.leads B.leads (link m (3 * x + i));
}

kept_back : {x : ℕ} {m n : Topology} → LinksKept x m n → LinksKept x n m
kept_back (onward F) = back F
kept_back (back F) = onward F
kept_back (through S A B) = through S (kept_back B) (kept_back A)

-- Splits and flips that leave the generation of a triangle.
module _ {x : ℕ} {m n : Topology} (T : Still m n) (l : x < m.triangles) (e : generation n x ≡ generation m x) where
  same : (i : ℕ) → i < 3 → generation n ((3 * x + i) / 3) ≡ generation m ((3 * x + i) / 3)
  same i b = let z : (3 * x + i) / 3 ≡ x = omega arith in rw z e

  pub still_follows : LinksFollow x m n
  still_follows = record {
    leads = T.follows.leads;
    unwritten = e;
    links = λ i b. T.follows.links (3 * x + i) (omega arith) (same i b);
  }

-- ---- triangles

-- Neither topology nor positions change.
pub stands_same : {x : ℕ} {m n : Mesh} → x < m.topology.triangles → n.topology ≡ m.topology
    → n.positions ≡ m.positions → Stands x m n
stands_same {x} {m} l t p = rw (t, p) (record {
  in_use = l;
  generation = refl;
  corners = λ i b. refl;
  positions = λ i k b c. refl;
  links = onward (follow_none refl);
})

-- One way and then another, through a sound mesh or one with the same topology.
pub stands_on : {x : ℕ} {m k n : Mesh} → (k.topology ≡ m.topology) ⊎ Sound k → Stands x m k → Stands x k n
    → Stands x m n
stands_on {x} {m} {k} {n} s A B = record {
  in_use = B.in_use;
  generation = B.generation ∙ A.generation;
  corners = λ i b. B.corners i b ∙ A.corners i b;
  positions = λ i c b d.
      subst (λ (v : ℕ). coordinate n v c ≡ coordinate k v c) (A.corners i b) (B.positions i c b d)
      ∙ A.positions i c b d;
  links = go s;
}
  where
    go : (k.topology ≡ m.topology) ⊎ Sound k → LinksKept x m.topology n.topology
    go (inl e) = subst (λ (t : Topology). LinksKept x t n.topology) e B.links
    go (inr S) = through S A.links B.links

pub stands_back : {x : ℕ} {m n : Mesh} → x < m.topology.triangles → Stands x m n → Stands x n m
stands_back {x} {m} {n} l A = record {
  in_use = l;
  generation = sym A.generation;
  corners = λ i b. sym (A.corners i b);
  positions = λ i k b c.
      subst (λ (v : ℕ). coordinate m v k ≡ coordinate n v k) (sym (A.corners i b)) (sym (A.positions i k b c));
  links = kept_back A.links;
}

pub still_stands : {x : ℕ} {m n : Mesh} → Sound m → Still m.topology n.topology
    → ((i : ℕ) → i < 3 * m.topology.vertices → get_or n.positions i (pos 0) ≡ get_or m.positions i (pos 0))
    → x < m.topology.triangles → generation n.topology x ≡ generation m.topology x → Stands x m n
still_stands {x} {m} {n} S T old l e = record {
  in_use = omega (arith, T.grows);
  generation = e;
  corners = λ i b. T.corners (3 * x + i) (omega arith) (same T l e i b);
  positions = λ i k b c. old _ (omega (arith, S.corner (3 * x + i) (omega arith)));
  links = onward (still_follows T l e);
}

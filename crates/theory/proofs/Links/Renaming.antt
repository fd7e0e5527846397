-- What a renaming of sides keeps.
use mathlib.Core.Path.{◌≡◌, sym, ap, ◌∙◌}
use mathlib.Core.Logic.{inl, inr}
use Prim.Native.Nat.{ℕ, ◌<◌}
use Rattle.theory.proofs.Links.Manifold.{Partnered, level, Joined}
use Rattle.rules.specs.Sound.{OneFan, Turns, here, turn}
use Rattle.rules.specs.Tables.{Topology, sides, origin, target, boundary, link, rotate}

-- `r` renames the sides of m to sides of n. All but those that go keep their partner, ends and level.
pub record Renames (m n : Topology) (Kept : ℕ → Type 0) (r : ℕ → ℕ) : Type 0 where
  pub at_boundary : r boundary ≡ boundary
  pub into : (h : ℕ) → h < sides m → r h < sides n
  pub origin : (h : ℕ) → h < sides m → Kept h → origin n (r h) ≡ origin m h
  pub target : (h : ℕ) → h < sides m → Kept h → target n (r h) ≡ target m h
  pub level : (h : ℕ) → h < sides m → Kept h → level n (r h) ≡ level m h
  pub links : (h : ℕ) → h < sides m → Kept h → link n (r h) ≡ r (link m h)
  pub stays : (h : ℕ) → h < sides m → Kept h → Partnered m h → Kept (link m h)

module _ (m n : Topology) (Kept : ℕ → Type 0) (r : ℕ → ℕ) (R : Renames m n Kept r) where
  renamed_partner : (h : ℕ) → h < sides m → Kept h → Partnered m h → Partnered n (r h)
  renamed_partner h b k M =
      let p : ℕ = link m h in
      let kp : Kept p = R.stays h b k M in
      let bp : p < sides m = M.in_use in
      let e : link n (r h) ≡ r p = R.links h b k in
      record {
        in_use = rw e (R.into p bp);
        back = rw e (R.links p bp kp ∙ ap r M.back);
        from = rw e (R.origin p bp kp ∙ M.from ∙ sym (R.target h b k));
        onto = rw e (R.target p bp kp ∙ M.onto ∙ sym (R.origin h b k));
        level = rw e (R.level p bp kp ∙ M.level ∙ sym (R.level h b k));
      }

  pub linked : (h : ℕ) → h < sides m → Kept h → Joined m h → Joined n (r h)
  linked h b k (inl e) = inl (R.links h b k ∙ ap r e ∙ R.at_boundary)
  linked h b k (inr M) = inr (renamed_partner h b k M)

-- ---- fans

pub turns_lt : {m : Topology} {s h : ℕ} → s < sides m → Turns m s h → h < sides m
turns_lt l here = l
turns_lt l (turn r e b) = b

pub turns_trans : {m : Topology} {a b c : ℕ} → Turns m a b → Turns m b c → Turns m a c
turns_trans p here = p
turns_trans p (turn q e l) = turn (turns_trans p q) e l

module _ (m n : Topology) (r : ℕ → ℕ)
    (step : (h : ℕ) → h < sides m → rotate m h < sides m → Turns n (r h) (r (rotate m h))) where
  turns_map : {s h : ℕ} → s < sides m → Turns m s h → Turns n (r s) (r h)
  turns_map l here = here
  turns_map l (turn {h} q e b) =
      turns_trans (turns_map l q) (rw e at (step h (turns_lt l q) (rw e b)))

  pub fan_map : (v : ℕ)
      → ((h : ℕ) → h < sides m → (r h < sides n) × (origin n (r h) ≡ origin m h))
      → ((k : ℕ) → k < sides n → origin n k ≡ v → (h : ℕ) × (h < sides m) × (origin m h ≡ v) × Turns n (r h) k)
      → OneFan m v → OneFan n v
  fan_map v keeps every f = record {
    first = r f.first;
    in_use = (keeps f.first f.in_use).0;
    out = (keeps f.first f.in_use).1 ∙ f.out;
    all = λ k b o.
        let x = every k b o in
        turns_trans (turns_map f.in_use (f.all x.0 x.1 x.2)) x.3;
  }

-- A rim followed side by side until it closes.
use Rattle.std.proofs.Common.{ℕ, zero, suc, ◌+◌, ◌-◌, ◌<◌, ◌≤◌, arith, length, ◌≡◌, ◌≢◌, refl, sym, ap, ◌∙◌}
use native.Mathlib.Decide.{dec_lt, ℕ_discrete}
use Rattle.theory.proofs.Links.Manifold.{Manifold}
use Rattle.theory.proofs.Rims.RimWalk.{along, only_side, side_along, rim_open, rim_closes, rim_short, rim_made}
use Rattle.rules.specs.Rim.{rim}
use Rattle.rules.specs.Ring.{OnBoundary, first_side}
use Rattle.rules.specs.Tables.{Topology, origin, target}
use Rattle.rim.specs.Traced.{OnRimSide, Closes}

-- After n vertices from the side `first` on, the rim leaves the last of them by side h.
pub record Tracing (m : Topology) (first n h : ℕ) : Type 0 where
  pub some : 0 < n
  pub most : n ≤ length (rim m (origin m first))
  pub side : h ≡ first_side m (along m (origin m first) (n - 1))

module _ (m : Topology) {first : ℕ} (R : OnRimSide m first) where
  abbrev F : Manifold m
  F = R.manifold

  abbrev v : ℕ
  v = origin m first

  pub starts_in_use : v < m.vertices
  starts_in_use = F.corner first R.side.in_use

  pub starts_on_boundary : OnBoundary m v
  starts_on_boundary = (first, R.side.in_use, refl, R.side.edge)

  pub first_is : first_side m v ≡ first
  first_is = only_side m F starts_in_use R.side

  along_on : (n : ℕ) → 0 < n → target m (first_side m (along m v (n - 1))) ≡ along m v n
  unfolding along
  along_on zero o = absurd (omega arith)
  along_on (suc n) o =
      let q : suc n - 1 ≡ n = omega arith in
      ap (λ (j : ℕ). target m (first_side m (along m v j))) q

  pub leaves_at : {h : ℕ} (j : ℕ) → h ≡ first_side m (along m v j) → OnRimSide m h
  leaves_at j e =
      let S = side_along m F v starts_in_use starts_on_boundary j in
      record { manifold = F; side = rw e (record { in_use = S.in_use; out = refl; edge = S.edge }) }

  pub traced_on_rim : {n h : ℕ} → Tracing m first n h → OnRimSide m h
  traced_on_rim {n} T = leaves_at (n - 1) T.side

  pub tracing_begins : Tracing m first 1 first
  unfolding along
  tracing_begins = record {
    some = omega arith;
    most = omega (arith, (rim_made m F v starts_in_use starts_on_boundary).at_least_two);
    side = sym first_is;
  }

  module _ {n h k : ℕ} (T : Tracing m first n h) (goes_on : OnRimSide m h → k ≡ first_side m (target m h)) where
    e : k ≡ first_side m (target m h)
    e = goes_on (traced_on_rim T)

    -- The next side leaves the next vertex.
    next_side : k ≡ first_side m (along m v n)
    next_side =
        e ∙ ap (λ (x : ℕ). first_side m (target m x)) T.side ∙ ap (first_side m) (along_on n T.some)

    -- Where it is the first, the rim is closed,
    pub tracing_ends : k ≡ first → Closes m first (record { length = n; last = h })
    tracing_ends q = record { size = go (dec_lt n (length (rim m v))); back = T.side }
      where
        back : along m v n ≡ v
        back =
            sym (side_along m F v starts_in_use starts_on_boundary n).out ∙ ap (λ (x : ℕ). origin m x) (sym next_side ∙ q)

        go : Dec (n < length (rim m v)) → n ≡ length (rim m v)
        go (yes l) = absurd (rim_open m F v starts_in_use starts_on_boundary n T.some l back)
        go (no l) = omega (arith, T.most)

    -- and else it goes on.
    pub tracing_on : k ≢ first → Tracing m first (n + 1) k
    tracing_on x = record {
      some = omega arith;
      most = go (ℕ_discrete n (length (rim m v)));
      side = let q : n + 1 - 1 ≡ n = omega arith in next_side ∙ ap (λ (j : ℕ). first_side m (along m v j)) (sym q);
    }
      where
        go : Dec (n ≡ length (rim m v)) → n + 1 ≤ length (rim m v)
        go (yes q) =
            absurd (x (next_side ∙ ap (λ (j : ℕ). first_side m (along m v j)) q
            ∙ ap (first_side m) (rim_closes m F v starts_in_use starts_on_boundary) ∙ first_is))
        go (no q) = omega (arith, T.most)

  pub tracing_short : {n h : ℕ} → Tracing m first n h → n ≤ length m.links
  tracing_short T = omega (arith, T.most, rim_short m F v starts_in_use starts_on_boundary, F.link_room)

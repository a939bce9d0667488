-- The lower number is that of the setting that is listed first: of two groups the listing decides, and in a group the first index that
-- differs. Law `listing_order`.
use mathlib.Core.Path.{◌≡◌, refl, sym, ◌∙◌, ap, subst}
use mathlib.Core.Logic.{◌↔◌}
use mathlib.Core.Bool.{true, false, cond, true≢false}
use mathlib.Core.List.{List}
use Prim.Native.Nat.{ℕ, ◌+◌, ◌<◌, ◌≤◌}
use native.Mathlib.Omega.{arith}
use lib.Dec.{eqb}
use borrow.Author.Tests.{lt-ltb, le-ltb, eq-eqb, ne_eqb}
use Rattle.part.specs.declared.Device.{Device}
use Rattle.part.proofs.Facts.{compared}
use Rattle.settings.specs.Settings.{has_setting}
use Rattle.settings.specs.Order.{Group, rank, group, indices, bounds, position, size, start, number_of}
use Rattle.settings.specs.Order.{earlier, before}
use Rattle.settings.specs.Order.Group.{literals, wire_ands, macrocell_settings, block_settings, globals}
use Rattle.settings.specs.declared.Setting.{Setting}
use Rattle.settings.proofs.Order.{Within, position_below, earlier_below, below_earlier}
use Rattle.settings.proofs.Numbering.{within}

-- A group ends before a later one begins.
ends_before : (d : Device) (g h : Group) → rank g < rank h → start d g + size d g ≤ start d h
ends_before d literals literals l = omega arith
ends_before d literals wire_ands l = omega arith
ends_before d literals macrocell_settings l = omega arith
ends_before d literals block_settings l = omega arith
ends_before d literals globals l = omega arith
ends_before d wire_ands literals l = omega arith
ends_before d wire_ands wire_ands l = omega arith
ends_before d wire_ands macrocell_settings l = omega arith
ends_before d wire_ands block_settings l = omega arith
ends_before d wire_ands globals l = omega arith
ends_before d macrocell_settings literals l = omega arith
ends_before d macrocell_settings wire_ands l = omega arith
ends_before d macrocell_settings macrocell_settings l = omega arith
ends_before d macrocell_settings block_settings l = omega arith
ends_before d macrocell_settings globals l = omega arith
ends_before d block_settings literals l = omega arith
ends_before d block_settings wire_ands l = omega arith
ends_before d block_settings macrocell_settings l = omega arith
ends_before d block_settings block_settings l = omega arith
ends_before d block_settings globals l = omega arith
ends_before d globals literals l = omega arith
ends_before d globals wire_ands l = omega arith
ends_before d globals macrocell_settings l = omega arith
ends_before d globals block_settings l = omega arith
ends_before d globals globals l = omega arith

abbrev group_at : ℕ → Group
group_at r =
    cond (eqb r 0) literals (cond (eqb r 1) wire_ands (cond (eqb r 2) macrocell_settings (cond (eqb r 3) block_settings globals)))

same_rank : (g h : Group) → rank g ≡ rank h → g ≡ h
same_rank g h e = sym (found g) ∙ ap group_at e ∙ found h
  where
    found : (g : Group) → group_at (rank g) ≡ g
    found literals = refl
    found wire_ands = refl
    found macrocell_settings = refl
    found block_settings = refl
    found globals = refl

-- Of two settings in one group, the first index that differs decides; of two groups, the listing.
in_one_group : (d : Device) (g : Group) (xs ys : List ℕ) → Within (bounds d g) xs → Within (bounds d g) ys
    → (start d g + position (bounds d g) xs < start d g + position (bounds d g) ys) ↔ (earlier xs ys ≡ true)
in_one_group d g xs ys wx wy = (λ l. below_earlier wx wy (omega arith), λ e. let l = earlier_below wx wy e in omega arith)

-- The lower number is that of the setting that is listed first.
pub listing_order : (d : Device) (s t : Setting) → has_setting d s ≡ true → has_setting d t ≡ true
    → (number_of d s < number_of d t) ↔ (before d s t ≡ true)
unfolding number_of
listing_order d s t hs ht =
    let ws = within d s hs in
    let wt = within d t ht in
    let ps = position_below ws in
    let pt = position_below wt in
    compared (rank (group s)) (rank (group t))
    (λ l. let gap = ends_before d (group s) (group t) l in (λ h. rw (lt-ltb (rank (group s)) (rank (group t)) l), λ h. omega arith))
    (λ g. compared (rank (group t)) (rank (group s))
    (λ l. let gap = ends_before d (group t) (group s) l in
    (λ h. absurd (omega arith), λ h. absurd (later g l h)))
    (λ g2. same g g2 ws wt))
  where
    later : rank (group t) ≤ rank (group s) → rank (group t) < rank (group s) → before d s t ≡ true → ⊥
    later g l h =
        let no = ne_eqb (rank (group s)) (rank (group t)) (λ e. omega arith) in
        let z : false ≡ true = rw (le-ltb (rank (group s)) (rank (group t)) g, no) at h in
        true≢false (sym z)

    same : rank (group t) ≤ rank (group s) → rank (group s) ≤ rank (group t)
        → Within (bounds d (group s)) (indices d s) → Within (bounds d (group t)) (indices d t)
        → (start d (group s) + position (bounds d (group s)) (indices d s)
        < start d (group t) + position (bounds d (group t)) (indices d t)) ↔ (before d s t ≡ true)
    same a b ws wt =
        let e : rank (group s) ≡ rank (group t) = omega arith in
        let k : group s ≡ group t = same_rank (group s) (group t) e in
        let w : Within (bounds d (group t)) (indices d s) = subst (λ g. Within (bounds d g) (indices d s)) k ws in
        rw (le-ltb (rank (group s)) (rank (group t)) a, eq-eqb (rank (group s)) (rank (group t)) e, k)
        (in_one_group d (group t) (indices d s) (indices d t) w wt)

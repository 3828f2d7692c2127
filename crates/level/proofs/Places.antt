-- Where a group's words stand: its columns and those of its halves' outputs lie within the table.
use mathlib.Core.Path.{◌≡◌, ap, fun_ext}
use Prim.Native.Nat.{ℕ, ◌+◌, ◌≤◌, ◌<◌}
use native.Mathlib.Nat.{add_assoc, mul-le-mul_right}
use native.Mathlib.Omega.{arith}
use Rattle.rules.specs.Groups.{half_first, half_cards, half_broken, half_modulus, heard_in_half, output_of}
use Rattle.rules.specs.OneBeat.{most_frequent, next_m}
use Rattle.rules.proofs.Records.{eight_words, output_inside}
use Rattle.rules.proofs.Halves.{half_few, half_ends, half_broken_lem, half_modulus_lem, half_words_lem}
use Rattle.level.specs.declared.group.Group.{Group}
use Rattle.columns.specs.Columns.{Within}
use Rattle.level.specs.Groups.{Fits, Split, heard_by, column_of, half_group, outputs_of}

pub split_place : {g : Group} → Split g → (j : ℕ) → j ≤ 8 → g.base + j < g.w
split_place {g = g} s j l = omega (arith, eight_words g.f s.some, s.fits.words)

-- and its numbers are small
pub split_narrow : {g : Group} → Split g → g.base < 256
split_narrow s = omega (arith, split_place s 0 (omega arith), s.fits.narrow)

pub column_within : {g : Group} → Split g → (j : ℕ) → j ≤ 8 → Within (column_of g j)
column_within s j l =
    record { table = s.fits.table; place = split_place s j l; few = omega arith }

-- a half of a group that fits, fits
pub half_fits : {g : Group} → Split g → (i : ℕ) → i < 2 → Fits (half_group i g)
half_fits {g = g} s i l =
    let t = s.fits in
    let m = half_modulus_lem i g.f l in
    let ends : g.first + half_first i g.n + half_cards i g.n ≤ g.first + g.n = omega (arith, half_ends i g.n l) in
    record {
      table = omega (arith, mul-le-mul_right g.w ends, t.table);
      words = omega (arith, half_words_lem i g.f l s.some, t.words);
      few = half_few i g.n g.f l s.some t.few;
      small = omega (arith, t.small);
      narrow = t.narrow;
      broken = omega (arith, half_broken_lem i g.f l, t.broken);
      two = m.0;
      modulus = omega (arith, m.1, t.broken);
    }

pub outputs_within : {g : Group} → Fits g → Within (outputs_of g)
outputs_within {g = g} t =
    record {
      table = t.table;
      place = omega (arith, output_inside g.f, t.words);
      few = omega arith;
    }

-- the first of a group's words
pub base_within : {g : Group} → Fits g → Within (column_of g 0)
base_within t =
    record { table = t.table; place = omega (arith, t.words); few = omega arith }

-- what is heard of a half is what the group hears of it
pub half_heard : (g : Group) (i : ℕ) → heard_by (half_group i g) ≡ heard_in_half i g.n (heard_by g)
half_heard g i =
    fun_ext (λ u. fun_ext (λ j. rw (add_assoc g.first (half_first i g.n) u, add_assoc g.base 8 j)))

-- so the most frequent output of a half is the group's m of it
pub half_common : (g h : Group) (i : ℕ) → h ≡ half_group i g
    → most_frequent h.c h.n (λ (u : ℕ). output_of h.f h.c (heard_by h u)) ≡ next_m i g.n g.f (heard_by g)
unfolding next_m
half_common g h i e =
    rw e
    (ap
    (λ (hear : ℕ → ℕ → ℕ).
    most_frequent (half_modulus i g.f) (half_cards i g.n) (λ (u : ℕ). output_of (half_broken i g.f) (half_modulus i g.f) (hear u)))
    (half_heard g i))

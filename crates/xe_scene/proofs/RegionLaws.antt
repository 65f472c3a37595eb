-- Regions one after another, and commands one after another.
use Rattle.std.proofs.Common.{◌≡◌, ◌+◌, ◌<◌, ◌≤◌, ◌^◌, true, List, [], ◌∷◌, ◌++◌, length, refl, ◌∙◌, arith, length-append}
use Rattle.std.proofs.lemmas.List.Elements.{All-push}
use Rattle.std.specs.Prelude.{All}
use Rattle.std.proofs.lemmas.List.Sums.{sum_by-append}
use Rattle.xe_mem.specs.declared.region.Region.{Region}
use Rattle.xe_mem.specs.Layout.{IsLayout, fits_after, follow, end_behind, total}
use Rattle.xe_mem.proofs.LayoutLaws.{follow-push, end-push}
use Rattle.xe_scene.specs.declared.command.Command.{Command}
use Rattle.xe_scene.specs.Formed.{IsFormed}

pub total_push : (rs : List Region) (r : Region) → total (rs ++ r ∷ []) ≡ total rs + r.len
unfolding total
total_push rs r = omega (arith, sum_by-append (λ (s : Region). s.len) rs (r ∷ []))

pub total_none : total [] ≡ 0
unfolding total
total_none = refl

pub last_end_none : end_behind 0 [] ≡ 0
unfolding end_behind
last_end_none = refl

none_follow : follow 0 [] ≡ true
unfolding follow
none_follow = refl

-- no regions
pub layout_none : IsLayout []
layout_none = record { few = omega arith; follows = none_follow; small = omega (arith, total_none) }

-- one region more
pub layout_push : (rs : List Region) (r : Region) → IsLayout rs → fits_after (end_behind 0 rs) r ≡ true → length rs < 16 → total rs + r.len ≤ 2 ^ 24 → IsLayout (rs ++ r ∷ [])
layout_push rs r h k few small = record {
  few = omega (arith, length-append rs (r ∷ []));
  follows = follow-push rs r 0 h.follows ∙ k;
  small = omega (arith, total_push rs r, small);
}

pub last_end_push : (rs : List Region) (r : Region) → end_behind 0 (rs ++ r ∷ []) ≡ r.start + r.len
last_end_push rs r = end-push rs r 0

-- one command more
pub formed_push : (cs : List Command) (c : Command) → All IsFormed cs → IsFormed c → All IsFormed (cs ++ c ∷ [])
formed_push cs c h k = All-push IsFormed cs c h k

-- Laws of lists whose members have a tag, and of what stands outside them.
-- Assumes nothing.
use mathlib.Core.Path.{◌≡◌, ap, sym, ◌∙◌}
use mathlib.Core.Logic.{◌≢◌}
use mathlib.Core.List.{List, [], ◌∷◌}
use Prim.Native.Nat.{ℕ, ◌≤◌, ◌<◌}
use native.Mathlib.Omega.{arith}
use lib.ListN.{get_or}
use lib.Seq.{get_or-set_other}
use lib.ListN.{set}
use Rattle.cells.specs.Members.{Every, Out}
use Rattle.cells.proofs.MembersLaws.{every_map}
use Rattle.lists.specs.Ring.{Tagged}

-- what lies above every member is none
pub high : (N i : ℕ) (l : List ℕ) → N ≤ i → Every (λ y. y < N) l → Out i l
high N i l le h = every_map l (λ y (b : y < N). omega arith) h

-- what has another tag is no member
pub tag-out : (q : List ℕ) (t x : ℕ) (l : List ℕ) → get_or q x 0 ≢ t → Tagged q t l → Out x l
tag-out q t x l n h = every_map l (λ y (e : get_or q y 0 ≡ t) f. n (ap (λ (k : ℕ). get_or q k 0) (sym f) ∙ e)) h

-- a store of a tag at a node outside
pub tag_frame : (q : List ℕ) (t i w : ℕ) (l : List ℕ) → Out i l → Tagged q t l → Tagged (set q i w) t l
tag_frame q t i w [] o h = tt
tag_frame q t i w (x ∷ l) o h = (get_or-set_other q i x w 0 o.0 ∙ h.0, tag_frame q t i w l o.1 h.1)

-- `intake::try_read_full` meets its contract: what a read gave follows what had come before it, in the reader and in the buffer.
use Rattle.std.proofs.Common.{◌≡◌, ℕ, ◌+◌, ◌-◌, ◌≤◌, List, ◌++◌, rules, length, take, sym, ap, ◌∙◌, subst, length-take-le}
use Rattle.std.proofs.lemmas.List.{take-append-le}
use Rattle.std.proofs.Math.Seq.{take-append-add}
use Rattle.std.specs.Io.KnownBytes.{Consumes}
use Rattle.std.proofs.KnownBytes.{Consumes-trans}
use borrow.Rule.Slice.PartMut.{put_mid, post_of}
use Rattle.intake.proofs.try_read_full.Goals as goal

-- the first bytes after a write of ys behind them
joined : (at k n : ℕ) (xs ys : List ℕ) → at ≤ length xs → n ≤ length ys → take at xs ++ take n ys ≡ take (at + n) (put_mid at k xs ys)
joined at k n xs ys within fits =
    let front = take at xs in
    let behind : List ℕ = ys ++ post_of at k xs in
    let seam = take-append-add front behind n in
    sym (subst (λ (m : ℕ). take (m + n) (front ++ behind) ≡ front ++ take n behind) (length-take-le at xs within) seam
    ∙ ap (λ (l : List ℕ). front ++ l) (take-append-le n ys (post_of at k xs) fits))

pub loop-done-preserved : goal.loop-done-preserved
loop-done-preserved g c =
    let room = length c.loop-done.buf - c.loop-done.done in
    let e = joined c.loop-done.done room c.in-Ok.n c.loop-done.buf c.read.new.buf c.loop-done.invariant.0 c.in-Ok.ensures.bound.0 in
    (search rules, subst (Consumes _ _) e (Consumes-trans _ _ _ _ _ c.loop-done.invariant.1 c.in-Ok.ensures.bytes.0))

-- Streams over the calls: what any feeds one after the other give and leave is what the rules make of all their bytes, so that neither where they are cut
-- nor whether they come in one call makes a difference.
-- Assumes nothing.
use mathlib.Core.Path.{◌≡◌, refl, sym, ap, ap₂, ◌∙◌, subst}
use mathlib.Core.List.{List, [], ◌∷◌, ◌++◌}
use Prim.Native.Nat.{ℕ, ◌≤◌}
use native.Mathlib.Omega.{arith}
use lib.ListN.{length, drop, take-append-drop}
use Rattle.rules.specs.State.{State}
use Rattle.rules.specs.Bytes.{End, walk, parse_from, parse, encode_all}
use Rattle.rules.specs.Refusals.{store_bytes}
use Rattle.rules.specs.Verdict.{reads}
use Rattle.rules.specs.Carry.{Carry, opening, carry_bytes, carry_written, CarryAs, Carried, carries, ReadsCarry}
use Rattle.rules.specs.Feed.{Flow, feed_on, feed_all, glued, finish_on, ended}
use Rattle.rules.proofs.RoomLaws.{encode-append}
use Rattle.rules.proofs.CarriedLaws.{carried-once, carry-surplus}
use Rattle.rules.proofs.ReachLaws.{finish-is}
use Rattle.rules.proofs.StreamLaws.{feed-all, any_cutting}
use Rattle.store.specs.Holds.{Holds}
use Rattle.std.specs.Prelude.{Result, Ok}
use Rattle.rules.specs.declared.Turned.{Turned}
use Rattle.s3_fifo.specs.Calls.{ReadsAs, Called}
use Rattle.s3_fifo.specs.Feeds.{finish_says, verdict_says, FinishAs}
use Rattle.s3_fifo.specs.Streams.{Stream, over, feeds, OneStream, AsOneCall}
use Rattle.s3_fifo.proofs.OnceLaws.{alike_self, alike-holds, creation-once}
use Rattle.s3_fifo.proofs.WentLaws.{goes_on, goes-lent}
use Rattle.s3_fifo.proofs.ChainLaws.{whole-served}

-- ---- what a stream gives and leaves

-- by what flowed
pub record Given (s c : List ℕ) (w : Flow) (bs s' c' : List ℕ) : Type 0 where
  pub replies : bs ≡ encode_all w.replies
  pub holds : Holds s' w.state
  pub next : CarryAs c' w.carry
  pub surplus : drop carry_bytes c' ≡ drop carry_bytes c
  pub same_length : length s' ≡ length s

pub stream_gives : {s c bs s' c' : List ℕ} {ps : List (List ℕ)} {σ : State} {k : Carry} → Holds s σ → store_bytes ≤ length s → CarryAs c k
    → Stream s c ps bs s' c' → Given s c (feed_all σ k ps) bs s' c'
unfolding feed_all encode_all
stream_gives h b x over = record { replies = refl; holds = h; next = x; surplus = refl; same_length = refl }
stream_gives {s} {c} {σ = σ} {k = k} h b x (feeds {q = q} {s₁ = s₁} {c₁ = c₁} {ps = ps} {r = r} f g t) =
    let o = goes_on r h b x f g in
    let w = o.went in
    let m = feed_on σ k q in
    let v = stream_gives w.holds (omega (arith, w.same_length)) o.next t in
    record {
      replies = ap₂ (λ (y z : List ℕ). y ++ z) w.told v.replies ∙ sym (encode-append m.replies (feed_all m.state m.carry ps).replies);
      holds = v.holds;
      next = v.next;
      surplus = v.surplus ∙ carry-surplus (drop carry_bytes c) m.carry w.carried o.next.could;
      same_length = v.same_length ∙ w.same_length;
    }

-- the bytes of the carried record are what is carried and the surplus
record-bytes : (c : List ℕ) {c' : List ℕ} {k : Carry} → CarryAs c' k → drop carry_bytes c' ≡ drop carry_bytes c → c' ≡ carry_written k ++ drop carry_bytes c
record-bytes c {c'} x e = sym (take-append-drop carry_bytes c') ∙ ap₂ (λ (y z : List ℕ). y ++ z) x.written e

-- ---- any cutting

one_stream : {s c bs₁ bs₂ s₁ s₂ c₁ c₂ : List ℕ} {v w : Flow} → v ≡ w → Given s c v bs₁ s₁ c₁ → Given s c w bs₂ s₂ c₂ → OneStream bs₁ bs₂ s₁ s₂ c₁ c₂
one_stream {s} {c} {bs₁} {bs₂} {s₁} {s₂} {c₁} {c₂} {v} {w} e a b =
    let d : Given s c w bs₁ s₁ c₁ = subst (λ (f : Flow). Given s c f bs₁ s₁ c₁) e a in
    record {
      replies = d.replies ∙ sym b.replies;
      carries = record-bytes c d.next d.surplus ∙ sym (record-bytes c b.next b.surplus);
      stores = alike-holds d.holds b.holds (d.same_length ∙ sym b.same_length);
    }

any_cutting_on : {s c bs₁ bs₂ s₁ s₂ c₁ c₂ : List ℕ} {ps qs : List (List ℕ)} {σ : State} {k : Carry} → Holds s σ → store_bytes ≤ length s → CarryAs c k
    → Stream s c ps bs₁ s₁ c₁ → Stream s c qs bs₂ s₂ c₂ → glued ps ≡ glued qs → OneStream bs₁ bs₂ s₁ s₂ c₁ c₂
any_cutting_on {ps = ps} {qs = qs} {σ = σ} {k = k} h b x a d e =
    one_stream (any_cutting σ k x.could ps qs e) (stream_gives h b x a) (stream_gives h b x d)

-- a store that holds a state, and a record that a feed could have left
record Set (s c : List ℕ) : Type 0 where
  state : State
  carry : Carry
  holds : Holds s state
  long : store_bytes ≤ length s
  carried : CarryAs c carry

-- a stream of one feed at least was lent them
set-off : {s c q bs s' c' : List ℕ} {ps : List (List ℕ)} → Stream s c (q ∷ ps) bs s' c' → Set s c
set-off {s} {c} (feeds {r = r} f g t) =
    let l = goes-lent r f g in
    let y : ReadsAs s (reads l.state) = subst (ReadsAs s) l.store_is f.store_is in
    record { state = l.state; carry = l.carry; holds = y.1; long = y.0; carried = subst (ReadsCarry c) l.carry_is f.carry_is }

pub cut_anywhere : {s c bs₁ bs₂ s₁ s₂ c₁ c₂ : List ℕ} (ps qs : List (List ℕ)) → Stream s c ps bs₁ s₁ c₁ → Stream s c qs bs₂ s₂ c₂ → glued ps ≡ glued qs
    → OneStream bs₁ bs₂ s₁ s₂ c₁ c₂
cut_anywhere {s} [] [] over over e = record { replies = refl; carries = refl; stores = alike_self s }
cut_anywhere (p ∷ ps) qs a b e = let y = set-off a in any_cutting_on y.holds y.long y.carried a b e
cut_anywhere [] (q ∷ qs) a b e = let y = set-off b in any_cutting_on y.holds y.long y.carried a b e

-- ---- against one call

-- a finish says how the whole stream ended
says_on : {s c bs s' c' : List ℕ} (ps : List (List ℕ)) {σ : State} → Holds s σ → store_bytes ≤ length s → CarryAs c opening → Stream s c ps bs s' c'
    → (r : Result (Unit {0}) Turned) → FinishAs c' r → finish_says r ≡ verdict_says (ended (parse (glued ps)).end)
says_on {c' = c'} ps {σ} h b x t r f =
    let k : Carry = (feed_on σ opening (glued ps)).carry in
    let y : CarryAs c' k = subst (λ (w : Flow). CarryAs c' w.carry) (feed-all σ opening x.could ps) (stream_gives h b x t).next in
    f.says ∙ ap (λ (d : Carried). verdict_says (finish_on d)) (carried-once c' f.carry (carries k) f.carry_is y) ∙ ap verdict_says (finish-is σ (glued ps))

pub finish-says : {s c bs s' c' : List ℕ} (ps : List (List ℕ)) → CarryAs c opening → Stream s c ps bs s' c' → (r : Result (Unit {0}) Turned) → FinishAs c' r
    → finish_says r ≡ verdict_says (ended (parse (glued ps)).end)
unfolding parse parse_from walk
finish-says {c = c} [] x over r f = f.says ∙ ap (λ (d : Carried). verdict_says (finish_on d)) (carried-once c f.carry (carries opening) f.carry_is x)
finish-says (p ∷ ps) x t r f = let y = set-off t in says_on (p ∷ ps) y.holds y.long x t r f

pub as_one_call : {s c bs s' c' p s₁ p₁ : List ℕ} {n : ℕ} (ps : List (List ℕ)) → CarryAs c opening → Stream s c ps bs s' c'
    → Called s (glued ps) p (Ok n) s₁ p₁ → AsOneCall bs s' c' n s₁ p₁
unfolding feed_on
as_one_call {s} {c} {bs} {s'} {c'} {p} {s₁} {p₁} {n} ps x t d =
    let y = whole-served d in
    let σ = y.state in
    let g : Given s c (feed_on σ opening (glued ps)) bs s' c' =
    subst (λ (w : Flow). Given s c w bs s' c') (feed-all σ opening x.could ps) (stream_gives y.held y.long x t) in
    record {
      replies = g.replies ∙ sym y.served.told;
      stores = alike-holds y.served.holds g.holds (y.same_length ∙ sym g.same_length);
      complete = λ r f. creation-once r (Ok tt)
          (says_on ps y.held y.long x t r f ∙ ap (λ (e : End). verdict_says (ended e)) y.ended);
    }

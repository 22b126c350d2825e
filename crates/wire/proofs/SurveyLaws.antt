-- The laws of the walk over all records: the survey of the whole is the room so far and the survey from here on.
-- Assumes nothing.
use Prim.Native.Nat.{ℕ, ◌+◌, ◌-◌, ◌*◌, ◌≤◌, ◌<◌}
use native.Mathlib.Omega.{arith}
use native.Mathlib.Nat.{zero-add, add-zero, add_assoc}
use mathlib.Core.Path.{◌≡◌, refl, sym, ap, ◌∙◌}
use mathlib.Core.List.{List}
use Rattle.std.specs.Prelude.{Result, Ok, Err}
use lib.ListN.{length}
use mir.Syntax.{w64}
use mir.Val.{Fits}
use Rattle.rules.specs.Parts.{total}
use Rattle.rules.specs.Records.{Request}
use Rattle.rules.specs.Bytes.{over, made, room_of, room_for, Reading, ask, strange, short, end, reading_at, End, unknown_at, cut_at, whole}
use Rattle.rules.specs.Bytes.{Parsed, ends, with, on_reading, parse_from}
use Rattle.rules.specs.Refusals.{most_request_bytes}
use Rattle.rules.proofs.TableLaws.{row-bytes, room-made}
use Rattle.rules.proofs.ParseLaws.{Lies, spot_lies, parse-step}
use Rattle.rules.specs.declared.Row.{Row}
use Rattle.wire.specs.declared.Stop.{Stop}
use Rattle.wire.specs.declared.Stop.TheVariants.{Whole, Unknown, Cut}
use Rattle.wire.specs.declared.Survey.{Survey}
use Rattle.wire.specs.Wire.{end_at, stop_of, surveyed, Spots}
use Rattle.wire.proofs.SpotLaws.{spot_is, reads, row_is, spot_inside, read-request}

-- so much room was asked for before
abbrev plus : ℕ → Survey → Survey
plus n v = record { room = n + v.room; at = v.at; stop = v.stop }

with-room : (n m : ℕ) (q : Request) (p : Parsed Request) → plus m (surveyed n (with q p)) ≡ plus (m + room_of q) (surveyed n p)
unfolding room_for
with-room n m q p j = record { room = sym (add_assoc m (room_of q) (total room_of p.requests)) j; at = (surveyed n p).at; stop = (surveyed n p).stop }

stopped : (n m : ℕ) (e : End) → plus m (surveyed n (ends e)) ≡ record { room = m; at = end_at n e; stop = stop_of e }
unfolding room_for
stopped n m e j = record { room = add-zero m j; at = end_at n e; stop = stop_of e }

-- between two turns: the survey from the start is the room so far and the survey from here on
pub record Surveying (s : List ℕ) (start at room : ℕ) : Type 0 where
  pub within : at ≤ length s
  pub few : room ≤ 18 * at
  pub on : surveyed (length s) (parse_from s start) ≡ plus room (surveyed (length s) (parse_from s at))

pub survey_start : {s : List ℕ} {start : ℕ} → start ≤ length s → Surveying s start start 0
survey_start {s} {start} h = record {
  within = h;
  few = omega arith;
  on = λ j. let v = surveyed (length s) (parse_from s start) in record { room = sym (zero-add v.room) j; at = v.at; stop = v.stop };
}

module _ {s : List ℕ} {start i n : ℕ} (g : Surveying s start i n) {p : Result Row Stop} (f : Spots s i p) where
  turn : (r : Reading Request) → r ≡ reading_at s i → surveyed (length s) (parse_from s start) ≡ plus n (surveyed (length s) (on_reading (parse_from s) i r))
  turn r e = g.on ∙ ap (λ q. plus n (surveyed (length s) q)) (parse-step s i ∙ ap (on_reading (parse_from s) i) (sym e))

  pub survey_stop : {t : Stop} → p ≡ Err t → record { room = n; at = i; stop = t } ≡ surveyed (length s) (parse_from s start)
  survey_stop {t = Unknown} is = sym (turn strange (reads f is refl) ∙ stopped (length s) n (unknown_at i))
  survey_stop {t = Cut} is = sym (turn short (reads f is refl) ∙ stopped (length s) n (cut_at i))
  survey_stop {t = Whole} is =
      let o : Lies s i over = rw (spot_is f (Err Whole) is) at (spot_lies s i) in
      let e : length s ≡ i = omega (arith, g.within, o) in
      sym (turn end (reads f is refl) ∙ stopped (length s) n whole ∙ (λ j. record { room = n; at = e j; stop = Whole }))

  module _ {e : Row} (is : p ≡ Ok e) where
    bounds : (2 ≤ e.bytes) × (e.room ≤ 18 * e.bytes)
    bounds = rw (row_is f is) (row-bytes e.kind)

    pub survey_next : Surveying s start (i + e.bytes) (n + e.room)
    survey_next =
        let q = made s i e.kind in
        let r : room_of q ≡ e.room = room-made s i e.kind ∙ sym (ap (λ x. x.room) (row_is f is)) in
        record {
          within = spot_inside f is;
          few = omega (arith, g.few, bounds);
          on = rw r at (turn (ask q (i + e.bytes)) (read-request f is refl) ∙ with-room (length s) n q (parse_from s (i + e.bytes)));
        }

    pub survey_less : length s - (i + e.bytes) < length s - i
    survey_less = omega (arith, spot_inside f is, bounds)

    pub room_fits : length s ≤ most_request_bytes → Fits w64 (n + e.room)
    room_fits h = omega (arith, survey_next.within, survey_next.few)

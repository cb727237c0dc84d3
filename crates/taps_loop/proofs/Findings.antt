-- What a look in the bytes that were read makes of the turn of the accepted end.
use Rattle.std.proofs.Common.{◌≡◌, ℕ, ◌+◌, ◌<◌, ◌≤◌, Bool, true, false, List, [], ◌++◌, length, take, Some, None, refl, sym, ap, subst, ◌∙◌, arith}
use Rattle.taps_framer.specs.Layers.{Layer}
use Rattle.taps_socket.specs.Calls.{Call}
use Rattle.taps_connection.specs.Unread.{Unread}
use Rattle.taps_exchange.specs.declared.outcome.Outcome.{Outcome}
use Rattle.taps_exchange.specs.declared.outcome.Outcome.TheVariants as outcome
use Rattle.taps_exchange.specs.Decodings.{Hearing, enough, lacks, breaks, messages_of, decoding_of}
use Rattle.taps_exchange.specs.Hearings.{ends_in}
use Rattle.taps_exchange.specs.Members.{Member, calls_on, pieces_read}
use Rattle.taps_exchange.specs.Turns.{Turn, over, turn_in}
use Rattle.taps_loop.specs.declared.hearing.In.TheVariants as in_turn
use Rattle.taps_loop.specs.declared.looked.Look.{Look}
use Rattle.taps_loop.specs.declared.looked.Look.TheVariants as look
use Rattle.taps_loop.specs.Loops.{Ends, sent_in, waiting, peer_ended, hearing, soon, turn_sending, unless_cut, needs_more, heard_in}
use Rattle.taps_loop.specs.Looks.{AreAll, IsFound}
use Rattle.taps_loop.specs.Hears.{in_found, IsEnd, IsToHear, IsIn, HasCome}
use Rattle.taps_loop.proofs.Hearings.{all_count, hearing_by, sent_by}

-- an outcome that ends the hearing ends the exchange, in either turn
ends_turn : (m : Member) (ended : Bool) (h : Hearing) (o : Outcome) (others : Turn) → ends_in None ended h ≡ Some o → turn_in m ended h others ≡ over o
ends_turn m ended (enough ms) o others e = cc
ends_turn m true (lacks ms unread) o others e = (let x : outcome.PeerEnded ≡ o = cc in ap over x)
ends_turn m false (lacks ms unread) o others e = cc
ends_turn m ended (breaks ms l p) o others e = (let x : outcome.BadFrame (record { message = length ms; layer = l; place = p }) ≡ o = cc in ap over x)

pub ends_cut : (ended : Bool) (h : Hearing) (o : Outcome) (others : Turn) → ends_in None ended h ≡ Some o → unless_cut ended h others ≡ over o
ends_cut ended (enough ms) o others e = cc
ends_cut true (lacks ms unread) o others e = (let x : outcome.PeerEnded ≡ o = cc in ap over x)
ends_cut false (lacks ms unread) o others e = cc
ends_cut ended (breaks ms l p) o others e = (let x : outcome.BadFrame (record { message = length ms; layer = l; place = p }) ≡ o = cc in ap over x)

-- then what waits counts
ends_waiting : (x : Ends) (calls : List Call) (ended : Bool) (h : Hearing) (o : Outcome) → ends_in None ended h ≡ Some o → needs_more x calls o ≡ waiting x calls
ends_waiting x calls ended (enough ms) o e = cc
ends_waiting x calls true (lacks ms unread) o e = (let y : outcome.PeerEnded ≡ o = cc in ap (needs_more x calls) (sym y))
ends_waiting x calls false (lacks ms unread) o e = cc
ends_waiting x calls ended (breaks ms l p) o e = (let y : outcome.BadFrame (record { message = length ms; layer = l; place = p }) ≡ o = cc in ap (needs_more x calls) (sym y))

module _ (x : Ends) (calls : List Call) (stream : Bool) (fs : List Layer) (piece deadline more needs : ℕ) (socket : ℕ) (fixed : IsEnd x stream fs socket piece deadline) (needs_is : needs ≡ sent_in x calls + more) (ended : Bool) (ended_is : ended ≡ peer_ended x calls) where
  -- what is heard is what was found
  pub heard_is : (h : Hearing) → (decoding_of stream fs).hearing needs (pieces_read (calls_on x.to.socket calls)) ended ≡ h → hearing x more calls ≡ h
  heard_is h e =
      hearing_by x calls stream fs socket piece deadline more fixed
      ∙ (ap (λ n. (decoding_of stream fs).hearing n (pieces_read (calls_on x.to.socket calls)) (peer_ended x calls)) (sym needs_is)
      ∙ (ap (λ v. (decoding_of stream fs).hearing needs (pieces_read (calls_on x.to.socket calls)) v) (sym ended_is) ∙ e))

  count_is : (ms : List (List ℕ)) → length ms < needs → more ≤ waiting x calls → AreAll (decoding_of stream fs) (pieces_read (calls_on x.to.socket calls)) ended ms → messages_of (hearing x (waiting x calls) calls) ≡ ms
  count_is ms few most all =
      ap messages_of (hearing_by x calls stream fs socket piece deadline (waiting x calls) fixed)
      ∙ (ap (λ v. messages_of ((decoding_of stream fs).hearing (sent_in x calls + waiting x calls) (pieces_read (calls_on x.to.socket calls)) v)) (sym ended_is)
      ∙ all_count (decoding_of stream fs) _ ended ms (sent_in x calls + waiting x calls) all (omega (arith, few, needs_is, most)))

  pub ends_heard : (o : Outcome) (ms : List (List ℕ)) → more ≤ waiting x calls → ends_in None ended ((decoding_of stream fs).hearing needs (pieces_read (calls_on x.to.socket calls)) ended) ≡ Some o → length ms < needs →
      AreAll (decoding_of stream fs) (pieces_read (calls_on x.to.socket calls)) ended ms → heard_in x calls o ≡ ms
  ends_heard o ms most e few all = ap (λ n. messages_of (hearing x n calls)) (ends_waiting x calls ended _ o e) ∙ count_is ms few most all

-- the first look, before anything is asked for
pub enough_in : (x : Ends) (calls : List Call) (stream : Bool) (fs : List Layer) (socket piece deadline more needs : ℕ) (ended : Bool) (u : Unread) (ms : List (List ℕ)) → IsEnd x stream fs socket piece deadline → needs ≡ sent_in x calls + more → ended ≡ peer_ended x calls →
    IsFound stream fs piece needs (pieces_read (calls_on x.to.socket calls)) ended look.Enough u ms → IsIn x calls [] stream fs piece more needs in_turn.Enough ended u ms
enough_in x calls stream fs socket piece deadline more needs ended u ms fixed n e found =
    (refl, record { ended_is = e; receiving = found.0 }, (found.2, heard_is x calls stream fs piece deadline more needs socket fixed n ended e _ found.1))

pub over_in : (x : Ends) (calls : List Call) (others : Turn) (stream : Bool) (fs : List Layer) (socket piece deadline more needs told : ℕ) (ended : Bool) (u : Unread) (ms : List (List ℕ)) (o : Outcome) → IsEnd x stream fs socket piece deadline →
    IsToHear x calls others more needs told → ended ≡ peer_ended x calls → IsFound stream fs piece needs (pieces_read (calls_on x.to.socket calls)) ended (look.Over o) u ms → IsIn x calls [] stream fs piece more needs (in_turn.Over o) ended u ms
over_in x calls others stream fs socket piece deadline more needs told ended u ms o fixed start e found =
    let h : ends_in None (peer_ended x calls) (hearing x more calls) ≡ Some o =
    ap (ends_in None (peer_ended x calls)) (heard_is x calls stream fs piece deadline more needs socket fixed start.needs_is ended e _ refl)
    ∙ subst (λ v. ends_in None v ((decoding_of stream fs).hearing needs (pieces_read (calls_on x.to.socket calls)) ended) ≡ Some o) e found.0 in (
      start.turn ∙ ends_turn (record x.to { until = soon x calls }) (peer_ended x calls) (hearing x more calls) o others h,
      ends_heard x calls stream fs piece deadline more needs socket fixed start.needs_is ended e o ms start.at_most found.0 found.1 found.2,
    )

-- the second look, behind what came
pub found_in : (x : Ends) (calls later : List Call) (stream : Bool) (fs : List Layer) (socket piece deadline more needs : ℕ) (ended : Bool) (u v : Unread) (ms ns : List (List ℕ)) (l : Look) → IsEnd x stream fs socket piece deadline →
    needs ≡ sent_in x calls + more → calls_on x.from.socket (later ++ calls) ≡ calls_on x.from.socket calls → HasCome x (later ++ calls) stream fs piece more ended u ms →
    IsFound stream fs piece needs (pieces_read (calls_on x.to.socket (later ++ calls))) ended l v ns → IsIn x calls later stream fs piece more needs (in_found l) ended v ns
found_in x calls later stream fs socket piece deadline more needs ended u v ms ns look.Enough fixed n apart come found =
    let all = later ++ calls in
    let n2 : needs ≡ sent_in x all + more = n ∙ ap (λ k. k + more) (sym (ap (sent_by x) apart)) in
    let e = come.kept.ended_is in
    let h = heard_is x all stream fs piece deadline more needs socket fixed n2 ended e (enough (take needs ns)) found.1 in (
      record { ended_is = e; receiving = found.0 },
      (found.2, h),
      come.turn ∙ (ap (λ k. unless_cut (peer_ended x all) (hearing x k all) (turn_sending x all)) come.waits ∙ ap (λ k. unless_cut (peer_ended x all) k (turn_sending x all)) h),
      come.had,
      come.waits,
    )
found_in x calls later stream fs socket piece deadline more needs ended u v ms ns look.Lacks fixed n apart come found =
    let all = later ++ calls in
    let n2 : needs ≡ sent_in x all + more = n ∙ ap (λ k. k + more) (sym (ap (sent_by x) apart)) in
    let e = come.kept.ended_is in
    let h = heard_is x all stream fs piece deadline more needs socket fixed n2 ended e (lacks ns found.3.unread) found.3.fewer in (
      record { ended_is = e; receiving = found.0 },
      (found.4, (found.3.unread, h)),
      come.turn
          ∙ (ap (λ k. unless_cut (peer_ended x all) (hearing x k all) (turn_sending x all)) come.waits
          ∙ (ap (λ k. unless_cut (peer_ended x all) k (turn_sending x all)) h
          ∙ ap (λ k. unless_cut k (lacks ns found.3.unread) (turn_sending x all)) (sym e ∙ found.1))),
      come.had,
      come.waits,
    )
found_in x calls later stream fs socket piece deadline more needs ended u v ms ns (look.Over o) fixed n apart come found =
    let all = later ++ calls in
    let n2 : needs ≡ sent_in x all + more = n ∙ ap (λ k. k + more) (sym (ap (sent_by x) apart)) in
    let e = come.kept.ended_is in
    let h : ends_in None (peer_ended x all) (hearing x more all) ≡ Some o =
    ap (ends_in None (peer_ended x all)) (heard_is x all stream fs piece deadline more needs socket fixed n2 ended e _ refl)
    ∙ subst (λ k. ends_in None k ((decoding_of stream fs).hearing needs (pieces_read (calls_on x.to.socket all)) ended) ≡ Some o) e found.0 in
    let most : more ≤ waiting x all = (let w = come.waits in omega (arith, w)) in (
      come.turn ∙ (ap (λ k. unless_cut (peer_ended x all) (hearing x k all) (turn_sending x all)) come.waits ∙ ends_cut (peer_ended x all) (hearing x more all) o (turn_sending x all) h),
      ends_heard x all stream fs piece deadline more needs socket fixed n2 ended e o ns most found.0 found.1 found.2,
    )

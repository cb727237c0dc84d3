-- Before the first call what was read, which is nothing, is looked at.
use Rattle.std.proofs.Common.{◌≡◌, ℕ, ◌+◌, Bool, true, false, List, [], take, Option, Some, None, refl, sym, ap, subst, ◌∙◌, arith}
use Rattle.std.specs.Prelude.{Ok}
use Rattle.taps_framer.specs.Layers.{Layer}
use Rattle.taps_connection.specs.declared.sender.Begun.{Begun}
use Rattle.taps_connection.specs.declared.sender.Sender.{Sender}
use Rattle.taps_connection.specs.Encodings.{Encoding}
use Rattle.taps_connection.specs.Senders.{queued}
use Rattle.taps_connection.specs.Unread.{Unread}
use Rattle.taps_exchange.specs.Decodings.{Hearing, enough, lacks, decoding_of}
use Rattle.taps_exchange.specs.Hearings.{ends_in}
use Rattle.taps_loop.specs.declared.looked.Look.{Look}
use Rattle.taps_loop.specs.declared.looked.Look.TheVariants as look
use Rattle.taps_loop.specs.Loops.{Ends, sent_in, one_if, waiting, peer_ended, hearing, turn_sending, unless_cut, turn_loop}
use Rattle.taps_loop.specs.Looks.{IsFound}
use Rattle.taps_loop.specs.Sends.{waits, waits_by}
use Rattle.taps_loop.specs.Hears.{IsFlagged, IsKept}
use Rattle.taps_loop.specs.Rounds.{round_of, AreEnds, AreKept, IsRound}
use Rattle.taps_loop.proofs.Findings.{heard_is, ends_heard, ends_cut}

module _ (x : Ends) (e : Encoding) (from : ℕ) (stream : Bool) (fs : List Layer) (to piece deadline : ℕ) (s : Sender) (told : ℕ) (ended : Bool) (u v : Unread) (ms ns : List (List ℕ)) (needs : ℕ)
    (ends : AreEnds x e from stream fs to piece deadline) (kept : AreKept x [] e stream fs piece s told ended u ms) (queue : x.from.messages ≡ queued s) (none : s.begun ≡ None) (needs_is : needs ≡ s.sent + waits s) where
  waits_now : waiting x [] ≡ waits s
  waits_now = ap one_if queue ∙ sym (ap (λ (o : Option Begun). waits_by o (queued s)) none)

  needs_now : needs ≡ sent_in x [] + waits s
  needs_now = needs_is ∙ ap (λ k. k + waits s) (sym kept.sent_is)

  heard_now : (h : Hearing) → (decoding_of stream fs).hearing needs [] ended ≡ h → hearing x (waits s) [] ≡ h
  heard_now h k = heard_is x [] stream fs piece deadline (waits s) needs to ends.fixed needs_now ended kept.hears.ended_is h k

  next_now : (h : Hearing) → hearing x (waits s) [] ≡ h → turn_loop x [] ≡ unless_cut (peer_ended x []) h (turn_sending x [])
  next_now h k = ap (λ n. unless_cut (peer_ended x []) (hearing x n []) (turn_sending x [])) waits_now ∙ ap (λ k. unless_cut (peer_ended x []) k (turn_sending x [])) k

  kept_now : IsKept x [] stream fs piece ended v ns → AreKept x [] e stream fs piece s told ended v ns
  kept_now k = record { in_turn = tt; sends = kept.sends; sent_is = kept.sent_is; hears = k; told_is = kept.told_is }

  flag_now : (flag : Bool) → IsFlagged flag needs (hearing x (waits s) []) ns → waits s ≡ 1 → IsFlagged flag (s.sent + 1) (hearing x 1 []) ns
  flag_now flag f w = subst (λ k. IsFlagged flag k (hearing x 1 []) ns) (needs_is ∙ ap (λ k. s.sent + k) w) (subst (λ k. IsFlagged flag needs (hearing x k []) ns) w f)

  pub starts : (l : Look) → IsFound stream fs piece needs [] ended l v ns → IsRound x [] e stream fs piece s told ended v ns (Ok (round_of l))
  starts look.Enough f =
      let h = heard_now (enough (take needs ns)) f.1 in (
        kept_now (record { ended_is = kept.hears.ended_is; receiving = f.0 }),
        record {
          turn = next_now (enough (take needs ns)) h;
          waits_for = λ w. waits_now ∙ w;
          flagged = flag_now true (f.2, h);
          enough_so = λ i. (let l = f.2 in omega (arith, l, needs_is));
          had = λ i. refl;
        },
      )
  starts look.Lacks f =
      let h = heard_now (lacks ns f.3.unread) f.3.fewer in (
        kept_now (record { ended_is = kept.hears.ended_is; receiving = f.0 }),
        record {
          turn = next_now (lacks ns f.3.unread) h ∙ ap (λ b. unless_cut b (lacks ns f.3.unread) (turn_sending x [])) (sym kept.hears.ended_is ∙ f.1);
          waits_for = λ w. waits_now ∙ w;
          flagged = flag_now false (f.4, (f.3.unread, h));
          enough_so = λ i. cc;
          had = λ i. refl;
        },
      )
  starts (look.Over o) f =
      let h = heard_now ((decoding_of stream fs).hearing needs [] ended) refl in
      record {
        in_turn = tt;
        ends = next_now ((decoding_of stream fs).hearing needs [] ended) h
            ∙ ends_cut (peer_ended x []) ((decoding_of stream fs).hearing needs [] ended) o (turn_sending x [])
            (subst (λ b. ends_in None b ((decoding_of stream fs).hearing needs [] ended) ≡ Some o) kept.hears.ended_is f.0);
        sent_is = kept.sent_is;
        heard_is = ends_heard x [] stream fs piece deadline (waits s) needs to ends.fixed needs_now ended kept.hears.ended_is o ns (let w = waits_now in omega (arith, w)) f.0 f.1 f.2;
      }

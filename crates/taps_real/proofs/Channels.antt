-- The channels of sockets, and the traffic that is seen of them.
use Rattle.std.proofs.Common.{◌≡◌, inl, inr, ℕ, zero, suc, ◌+◌, ◌<◌, ◌≤◌, Bool, true, false, List, [], ◌∷◌, ◌++◌, length, length-append, refl, ap, sym, ◌∙◌, subst, arith, if◌then◌else◌}
use Rattle.std.specs.Prelude.{◌==◌, slice_get, slice_set, None, Some}
use Rattle.std.proofs.Math.Path.{fun_ext}
use Rattle.std.proofs.lemmas.Bool.{eqb-true, eq-eqb}
use Rattle.taps_stack.specs.declared.target.Target.{Target}
use Rattle.taps_stack.specs.StackTable.{is_stream}
use Rattle.taps_socket.specs.declared.item.Item.{Item}
use Rattle.taps_socket.specs.declared.item.Item.TheVariants as item
use Rattle.taps_socket.specs.Sides.{carries_stream}
use Rattle.taps_socket.specs.Net.{IsUnused}
use Rattle.taps_real.specs.declared.channel.Channel.{Channel}
use Rattle.taps_real.specs.Channels.{fresh, traffic_of, traffic_at, no_traffic}
use Rattle.taps_real.specs.Tables.{AreChannels}
use Rattle.taps_real.proofs.Places.{first_test, last_test, next_test, at_place, set_place, set_length}

-- the traffic of a channel that is there, and of none past the last
pub traffic_found : (cs : List Channel) (s : ℕ) (c : Channel) → slice_get cs s ≡ Some c → traffic_at cs s ≡ traffic_of c
traffic_found [] s c h = (let z : None ≡ Some c = h in absurd cc)
traffic_found (d ∷ cs) zero c h = let same : d ≡ c = cc in ap traffic_of same
traffic_found (d ∷ cs) (suc s) c h = traffic_found cs s c h

pub traffic_past : (cs : List Channel) (s : ℕ) → length cs ≤ s → traffic_at cs s ≡ no_traffic
traffic_past [] s h = refl
traffic_past (c ∷ cs) zero h = absurd (omega arith)
traffic_past (c ∷ cs) (suc s) h = traffic_past cs s (omega arith)

-- one socket more has none
more_by : (cs : List Channel) (stream : Bool) (s : ℕ) → traffic_at (cs ++ fresh stream ∷ []) s ≡ traffic_at cs s
more_by [] stream zero = refl
more_by [] stream (suc s) = refl
more_by (c ∷ cs) stream zero = refl
more_by (c ∷ cs) stream (suc s) = more_by cs stream s

pub traffic_more : (cs : List Channel) (stream : Bool) → traffic_at (cs ++ fresh stream ∷ []) ≡ traffic_at cs
traffic_more cs stream = fun_ext (λ s. more_by cs stream s)

-- another channel of a socket changes its traffic alone
pub set_by : (cs : List Channel) (k s : ℕ) (c : Channel) → k < length cs → traffic_at (slice_set cs k c) s ≡ (if k == s then traffic_of c else traffic_at cs s)
set_by [] k s c h = absurd (omega arith)
set_by (d ∷ cs) zero zero c h = refl
set_by (d ∷ cs) zero (suc s) c h = rw (first_test s) refl
set_by (d ∷ cs) (suc k) zero c h = rw (last_test k) refl
set_by (d ∷ cs) (suc k) (suc s) c h = rw (next_test k s) (set_by cs k s c (omega arith))

pub traffic_set : (cs : List Channel) (k : ℕ) (c : Channel) → k < length cs → traffic_at (slice_set cs k c) ≡ (λ s. if k == s then traffic_of c else traffic_at cs s)
traffic_set cs k c h = fun_ext (λ s. set_by cs k s c h)

-- there is a channel at each place
pub some_channel : (cs : List Channel) (k : ℕ) → k < length cs → (c : Channel) × (slice_get cs k ≡ Some c)
some_channel [] k h = absurd (omega arith)
some_channel (c ∷ cs) zero h = (c, refl)
some_channel (c ∷ cs) (suc k) h = some_channel cs k (omega arith)

-- the channels carry what the sockets carry where an item leaves their targets
pub channels_still : (t t' : List Item) (n : ℕ) (cs : List Channel) → ((s : ℕ) → carries_stream t' s ≡ carries_stream t s) → AreChannels t n cs → AreChannels t' n cs
channels_still t t' n cs same h = record { count_is = h.count_is; streams = λ s c there. h.streams s c there ∙ sym (same s) }

-- with one channel more
pub with_fresh : (cs cs' : List Channel) (x : Channel) (stream : Bool) → cs' ≡ cs ++ x ∷ [] → x ≡ fresh stream → cs' ≡ cs ++ fresh stream ∷ []
with_fresh cs cs' x stream more is = more ∙ ap (λ c. cs ++ c ∷ []) is

pub channels_given : (t t' : List Item) (n n' : ℕ) (cs cs' : List Channel) (stream : Bool) → AreChannels t n cs → n' ≡ n + 1 → cs' ≡ cs ++ fresh stream ∷ [] → stream ≡ carries_stream t' n → ((s : ℕ) → s < n → carries_stream t' s ≡ carries_stream t s) → AreChannels t' n' cs'
channels_given t t' n n' cs cs' stream h next more own same =
    let len = length-append cs (fresh stream ∷ []) in
    let count = h.count_is in
    let longer : length cs' ≡ length (cs ++ fresh stream ∷ []) = ap length more in
    record { count_is = omega arith; streams = λ s d there. each s d (subst (λ v. slice_get v s ≡ Some d) more there) }
  where
    each : (s : ℕ) (d : Channel) → slice_get (cs ++ fresh stream ∷ []) s ≡ Some d → d.stream ≡ carries_stream t' s
    each s d there = elim (at_place cs (fresh stream) d s there) as (λ _. d.stream ≡ carries_stream t' s) [
      | inl p ↦ (let less = p.0 in let count = h.count_is in h.streams s d p.1 ∙ sym (same s (omega arith)))
      | inr p ↦ (let count = h.count_is in let place : n ≡ s = count ∙ sym p.0 in ap (λ c. c.stream) (sym p.1) ∙ (own ∙ ap (carries_stream t') place))
    ]

not_this : (n s : ℕ) → s < n → (n == s) ≡ false
not_this n s h = by_test (n == s) refl
  where
    by_test : (q : Bool) → (n == s) ≡ q → q ≡ false
    by_test true e = (let same : n ≡ s = eqb-true n s e in absurd (omega arith))
    by_test false e = refl

pub channels_started : (t : List Item) (n n' x leaf at : ℕ) (target : Target) (cs cs' : List Channel) (stream : Bool) → AreChannels t n cs → x ≡ n → n' ≡ n + 1 → cs' ≡ cs ++ fresh stream ∷ [] → stream ≡ is_stream target.stack → AreChannels (item.Started leaf target x at ∷ t) n' cs'
channels_started t n n' x leaf at target cs cs' stream h number next more carries =
    rw number (channels_given t (item.Started leaf target n at ∷ t) n n' cs cs' stream h next more (rw (eq-eqb n n refl) carries) (λ s less. rw (not_this n s less) refl))

pub channels_listening : (t : List Item) (n n' x at : ℕ) (target : Target) (cs cs' : List Channel) (stream : Bool) → AreChannels t n cs → x ≡ n → n' ≡ n + 1 → cs' ≡ cs ++ fresh stream ∷ [] → stream ≡ is_stream target.stack → AreChannels (item.Listening target x at ∷ t) n' cs'
channels_listening t n n' x at target cs cs' stream h number next more carries =
    rw number (channels_given t (item.Listening target n at ∷ t) n n' cs cs' stream h next more (rw (eq-eqb n n refl) carries) (λ s less. rw (not_this n s less) refl))

pub channels_accepted : (t : List Item) (n n' listener x at : ℕ) (cs cs' : List Channel) (stream : Bool) → AreChannels t n cs → x ≡ n → n' ≡ n + 1 → cs' ≡ cs ++ fresh stream ∷ [] → stream ≡ carries_stream t listener → AreChannels (item.Accepted listener x at ∷ t) n' cs'
channels_accepted t n n' listener x at cs cs' stream h number next more carries =
    rw number (channels_given t (item.Accepted listener n at ∷ t) n n' cs cs' stream h next more (rw (eq-eqb n n refl) carries) (λ s less. rw (not_this n s less) refl))

-- with another channel of a socket, which carries the same
pub channels_set : (t : List Item) (n k : ℕ) (cs cs' : List Channel) (c x : Channel) → AreChannels t n cs → slice_get cs k ≡ Some c → cs' ≡ slice_set cs k x → x.stream ≡ c.stream → AreChannels t n cs'
channels_set t n k cs cs' c x h there set carries =
    subst (AreChannels t n) (sym set) (record { count_is = h.count_is ∙ sym (set_length cs k x); streams = each })
  where
    each : (s : ℕ) (d : Channel) → slice_get (slice_set cs k x) s ≡ Some d → d.stream ≡ carries_stream t s
    each s d at = elim (set_place cs k s x d at) as (λ _. d.stream ≡ carries_stream t s) [
      | inl p ↦ (ap (λ c. c.stream) (sym p.1) ∙ (carries ∙ (h.streams k c there ∙ ap (carries_stream t) p.0)))
      | inr p ↦ h.streams s d p.1
    ]

-- a socket past the last has no traffic
pub unused_past : (cs : List Channel) (s : ℕ) → length cs ≤ s → IsUnused (traffic_at cs s)
unused_past cs s h = subst IsUnused (sym (traffic_past cs s h)) (record { no_room = refl; never_sent = refl; none_written = tt; none_read = tt })

-- What is seen of scripted sockets after a receive.
use Rattle.std.proofs.Common.{◌≡◌, ℕ, zero, suc, ◌<◌, ◌≤◌, ◌^◌, Bool, true, false, List, [], ◌∷◌, length, take, refl, ap, sym, ◌∙◌, subst, arith, if◌then◌else◌}
use Rattle.std.specs.Prelude.{◌==◌, slice_get, None, Some}
use Rattle.std.proofs.Math.Path.{fun_ext}
use Rattle.std.proofs.lemmas.List.{length-take}
use Rattle.taps_socket.specs.declared.answers.RecvAnswer.{RecvAnswer}
use Rattle.taps_socket.specs.declared.answers.RecvAnswer.TheVariants as recv
use Rattle.taps_socket.specs.Sides.{carries_stream, may_receive}
use Rattle.taps_socket.specs.Calls.{receives, came_in}
use Rattle.taps_socket.specs.Net.{Net, Traffic, received_on, after_receive, with_faults, IsReceiveAnswer}
use Rattle.taps_socket.specs.Shows.{IsGot}
use Rattle.taps_script.specs.declared.line.Line.{Line}
use Rattle.taps_script.specs.ScriptTexts.{LinesFit}
use Rattle.taps_script.specs.ScriptLines.{give_in, is_echoing}
use Rattle.taps_script.specs.PeerTimes.{arrived, sent_pieces}
use Rattle.taps_script.specs.DataAnswers.{Link, ReceiveStep, limited, received, receive_step}
use Rattle.taps_script.specs.Channels.{Channel, source, most_read, traffic_of, traffic_at, link_of, IsWithin}
use Rattle.taps_script.specs.ScriptSteps.{Step, received_step}
use Rattle.taps_script.specs.ScriptNet.{Scripted, net_of, link_at, read_in, read_count, read_by, after_receive_by, IsReadable, IsReceiveStep, IsReceiveAnswerAt, StaysScripted}
use Rattle.taps_script.specs.ReceiveFacts.{IsFound, IsReceived, ReceivesOn}
use Rattle.taps_script.specs.Goings.{goes}
use Rattle.taps_script.proofs.ReadParts.{GoesOn, goes_by, source_front, sent_few, sent_many}
use Rattle.taps_script.proofs.Traffics.{traffic_found, traffic_set, linked}

-- there is an end to what may be read
source_by : (q stream : Bool) (lines : List Line) (written : List (List ℕ)) → LinesFit lines → length lines ≤ 4096 → most_read stream written < 2 ^ 64 → most_read stream (if q then written else sent_pieces lines) < 2 ^ 64
source_by true stream lines written fit few h = h
source_by false true lines written fit few h = let most = sent_few lines fit in omega arith
source_by false false lines written fit few h = let most = sent_many lines in omega arith

goes_here : (lines : List Line) (c : Channel) (most until count at : ℕ) (step : ReceiveStep) → IsWithin lines c → IsFound lines (link_of lines c) most until step (recv.Got count at) → GoesOn c.stream c.read count step.came (source lines c.written)
goes_here lines c most until count at step within f =
    goes_by c.stream c.read (limited (give_in lines) most) count step.came (if is_echoing lines then c.written else arrived c.done at lines) (source lines c.written) (source_front c.done at lines c.written) within f.3 f.0 f.1

pub readable_by : (lines : List Line) (c : Channel) (most until : ℕ) (step : ReceiveStep) (a : RecvAnswer) → LinesFit lines → length lines ≤ 4096 → most_read c.stream c.written < 2 ^ 64 → IsWithin lines c → IsFound lines (link_of lines c) most until step a → IsReadable lines c (read_by c.stream a)
readable_by lines c most until step (recv.Got count at) fit few high within f =
    let on = goes_here lines c most until count at step within f in
    let more = on.within in
    let end = source_by (is_echoing lines) c.stream lines c.written fit few high in
    record { within = more; fits = omega arith }
readable_by lines c most until step recv.End fit few high within f =
    let end = source_by (is_echoing lines) c.stream lines c.written fit few high in record { within = omega arith; fits = omega arith }
readable_by lines c most until step (recv.Timed at) fit few high within f =
    let end = source_by (is_echoing lines) c.stream lines c.written fit few high in record { within = omega arith; fits = omega arith }
readable_by lines c most until step (recv.Failed cause) fit few high within f =
    let end = source_by (is_echoing lines) c.stream lines c.written fit few high in record { within = omega arith; fits = omega arith }

-- a receive may come to this
may_by : (lines : List Line) (link : Link) (most until : ℕ) (step : ReceiveStep) (answer : RecvAnswer) → IsFound lines link most until step answer → IsReceiveAnswerAt answer step.clock until
may_by lines link most until step (recv.Got count at) f = f.2
may_by lines link most until step recv.End f = tt
may_by lines link most until step (recv.Timed at) f = f
may_by lines link most until step (recv.Failed cause) f = tt

pub may_receive_step : (a : Scripted) (socket most until clock : ℕ) (out : List ℕ) (answer : RecvAnswer) → ReceivesOn a socket most until (received clock out answer) → IsReceiveStep answer clock until a.told
may_receive_step a socket most until clock out answer f =
    let later = f.received.later in
    let told = f.told_before in
    record { later = omega arith; fits = f.received.fits; may = may_by a.lines (link_at a socket) most until (received clock out answer) answer f.received.answer }

pub answer_may : (a : Scripted) (socket most until clock : ℕ) (out : List ℕ) (answer : RecvAnswer) → length out ≡ most → ReceivesOn a socket most until (received clock out answer) → IsReceiveAnswer answer (carries_stream a.trace socket) most until a.told
answer_may a socket most until clock out (recv.Got count at) len f =
    let g = f.received.answer in
    let came : length (take count out) ≡ count = g.0 in
    let some = g.1 in
    let is = g.2 in
    let later = f.received.later in
    let told = f.told_before in
    let fits = f.received.fits in
    (record { some = some; within = omega (arith, length-take count out) }, record { later = omega arith; fits = omega arith })
answer_may a socket most until clock out recv.End len f = f.received.answer
answer_may a socket most until clock out (recv.Timed at) len f =
    let g = f.received.answer in
    let in_time = g.0 in
    let is = g.1 in
    let later = f.received.later in
    let told = f.told_before in
    let fits = f.received.fits in
    (in_time, record { later = omega arith; fits = omega arith })
answer_may a socket most until clock out (recv.Failed cause) len f = tt

there_below : (cs : List Channel) (k : ℕ) (c : Channel) → slice_get cs k ≡ Some c → k < length cs
there_below [] k c h = let z : None ≡ Some c = h in absurd cc
there_below (d ∷ cs) zero c h = omega arith
there_below (d ∷ cs) (suc k) c h = let below = there_below cs k c h in omega arith

-- the traffic after bytes came
read_traffic : (lines : List Line) (c : Channel) (stream : Bool) (count : ℕ) (came : List ℕ) (traffic : Traffic) → traffic ≡ traffic_of lines c → c.stream ≡ stream → GoesOn c.stream c.read count came (source lines c.written) →
    traffic_of lines (read_in c (read_count c.stream count)) ≡ received_on stream came traffic
read_traffic lines c stream count came traffic is streams on =
    subst (λ x. traffic_of lines (read_in c (read_count c.stream count)) ≡ received_on stream came x) (sym is)
    (subst (λ b. traffic_of lines (read_in c (read_count c.stream count)) ≡ received_on b came (traffic_of lines c)) streams
    (ap (λ ps. (let x : Traffic = record { room = c.room; last_sent = c.last_sent; written = Some c.written; read = Some ps } in x)) on.pieces))

pub receive_net : (a : Scripted) (socket most until clock : ℕ) (out : List ℕ) (answer : RecvAnswer) (f : ReceivesOn a socket most until (received clock out answer)) →
    net_of (after_receive_by a socket f.channel until clock answer) ≡ after_receive socket until (came_in out answer) answer (net_of a)
receive_net a socket most until clock out (recv.Got count at) f =
    let c = f.channel in
    let g : IsFound a.lines (link_of a.lines c) most until (received clock out (recv.Got count at)) (recv.Got count at) =
    subst (λ l. IsFound a.lines l most until (received clock out (recv.Got count at)) (recv.Got count at)) (sym (linked a.lines a.trace a.channels socket c f.there f.is_channel)) f.received.answer in
    let on = goes_here a.lines c most until count at (received clock out (recv.Got count at)) f.is_channel.within g in
    let value = read_traffic a.lines c (carries_stream a.trace socket) count (take count out) (traffic_at a.lines a.channels socket) (traffic_found a.lines a.channels socket c f.there) f.is_channel.stream on in
    let traffic = traffic_set a.lines a.channels socket (read_in c (read_count c.stream count)) (there_below a.channels socket c f.there)
    ∙ fun_ext (λ (q : ℕ). ap (λ x. if socket == q then x else traffic_at a.lines a.channels q) value) in
    ap (λ t. (let n : Net = record { trace = a.trace; told = at; spare = a.spare; faults = a.faults; traffic = t; timed = a.timed; last_timed = a.last_timed } in n)) traffic
receive_net a socket most until clock out recv.End f = refl
receive_net a socket most until clock out (recv.Timed at) f = refl
receive_net a socket most until clock out (recv.Failed cause) f = refl

-- what stays
record Stays (a b : Scripted) (clock faults : ℕ) : Type 0 where
  pub lines : b.lines ≡ a.lines
  pub clock_is : b.clock ≡ clock
  pub faults_are : b.faults ≡ a.faults
  pub same_faults : b.faults ≡ faults

stays : (a : Scripted) (socket most until clock : ℕ) (out : List ℕ) (answer : RecvAnswer) (f : ReceivesOn a socket most until (received clock out answer)) →
    Stays a (after_receive_by a socket f.channel until clock answer) clock (after_receive socket until (came_in out answer) answer (net_of a)).faults
stays a socket most until clock out (recv.Got count at) f = record { lines = refl; clock_is = f.received.answer.2; faults_are = refl; same_faults = refl }
stays a socket most until clock out recv.End f = record { lines = refl; clock_is = refl; faults_are = refl; same_faults = refl }
stays a socket most until clock out (recv.Timed at) f = record { lines = refl; clock_is = f.received.answer.1; faults_are = refl; same_faults = refl }
stays a socket most until clock out (recv.Failed cause) f = record { lines = refl; clock_is = refl; faults_are = refl; same_faults = refl }

with_own : (n m : Net) (faults : ℕ) → n ≡ m → faults ≡ m.faults → n ≡ with_faults m faults
with_own n m faults e f = e ∙ subst (λ x. m ≡ with_faults m x) (sym f) refl

got_of : (a : Scripted) (socket most until clock : ℕ) (out : List ℕ) (answer : RecvAnswer) → ReceivesOn a socket most until (received clock out answer) → IsGot (came_in out answer) answer
got_of a socket most until clock out (recv.Got count at) f = f.received.answer.0
got_of a socket most until clock out recv.End f = refl
got_of a socket most until clock out (recv.Timed at) f = refl
got_of a socket most until clock out (recv.Failed cause) f = refl

pub receive_goes : (a : Scripted) (socket most until clock : ℕ) (out : List ℕ) (answer : RecvAnswer) (f : ReceivesOn a socket most until (received clock out answer)) → length out ≡ most →
    received clock out answer ≡ receive_step a.lines (link_at a socket) a.clock most until →
    may_receive a.trace socket ≡ true → 1 ≤ most → (carries_stream a.trace socket ≡ false → 65535 ≤ most) → until < 2 ^ 63 →
    StaysScripted a (receives socket most until (came_in out answer) answer ∷ []) (after_receive_by a socket f.channel until clock answer)
receive_goes a socket most until clock out answer f len is may some datagram ends =
    let b = after_receive_by a socket f.channel until clock answer in
    let s = stays a socket most until clock out answer f in
    let same = s.faults_are in
    let net = with_own (net_of b) (after_receive socket until (came_in out answer) answer (net_of a)) b.faults (receive_net a socket most until clock out answer f) s.same_faults in
    goes a b (receives socket most until (came_in out answer) answer) s.lines net
    (record { may = may; some = some; datagram = datagram; bounded = ends; answered = answer_may a socket most until clock out answer len f; got = got_of a socket most until clock out answer f })
    (omega arith) (λ e. (let z : false ≡ true = e in absurd cc))
    (ap (λ k. (let x : Step = record { clock = k; call = receives socket most until (came_in out answer) answer } in x)) s.clock_is ∙ ap (received_step socket most until) is)

-- what was found of a channel is what is found by what is seen
pub receives_on : (lines : List Line) (c : Channel) (most until now : ℕ) (step : ReceiveStep) → LinesFit lines → length lines ≤ 4096 → most_read c.stream c.written < 2 ^ 64 → IsWithin lines c → IsReceived lines (link_of lines c) now most until step → IsReadable lines c (read_by c.stream step.answer)
receives_on lines c most until now step fit few high within r = readable_by lines c most until step step.answer fit few high within r.answer

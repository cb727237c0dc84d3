-- A clone that joins its group, and one that does not.
use Rattle.std.proofs.Common.{◌≡◌, ◌⊎◌, inl, inr, ℕ, ◌<◌, List, [], ◌∷◌, ◌++◌, length, None, Result, Ok, Err, false, refl, sym, ◌∙◌, ap, subst, arith}
use Rattle.std.specs.List.{All}
use Rattle.std.proofs.lemmas.List.Elements.{All-nil}
use Rattle.taps_framer.specs.Layers.{Layer}
use Rattle.taps_framer.specs.declared.framer.Framer as framer
use Rattle.taps_chain.specs.Layers.{layers_of}
use Rattle.taps_message.specs.declared.accepted.Accepted.{Accepted}
use Rattle.taps_property.specs.declared.connection_props.ConnectionProps.{ConnectionProps}
use Rattle.taps_stack.specs.declared.stack.Stack.{Stack}
use Rattle.taps_stack.specs.declared.target.Target.{Target}
use Rattle.taps_stack.specs.StackTable.{is_stream}
use Rattle.taps_socket.specs.declared.race_answer.RaceAnswer.{RaceAnswer}
use Rattle.taps_socket.specs.declared.race_answer.RaceAnswer.TheVariants as answer
use Rattle.taps_socket.specs.Net.{Net, with_spare}
use Rattle.taps_connection.specs.Conditions.{IsHeld}
use Rattle.taps_connection.specs.declared.sender.Sender.{Sender}
use Rattle.taps_connection.specs.Senders.{IsNewSender, queued}
use Rattle.taps_group.specs.declared.group.Group.{Group}
use Rattle.taps_group.specs.declared.member.Member.{Member}
use Rattle.taps_group.specs.declared.clone.CloneError.{CloneError}
use Rattle.taps_group.specs.declared.clone.CloneError.TheVariants as error
use Rattle.taps_group.specs.Clones.{HasRaced, IsClone, IsJoined, HasJoined, IsGrown, Joins, Fails, HasNotRaced, HasClosedAgain, IsCloned}
use Rattle.taps_group.specs.Groups.{IsSoundGroup, IsSameGroup}
use Rattle.taps_group.specs.Members.{HasNumbers, IsSoundMember}
use Rattle.taps_group.specs.Orders.{orders_of}
use Rattle.taps_group.specs.Properties.{most_members}
use Rattle.taps_group.specs.Winning.{NamesNone}
use Rattle.taps_group.proofs.Racing.{raced_since, won_by_first, winner_held, failed}
use Rattle.taps_group.proofs.Soundness.{sound_same, sound_joined}

new_numbers : (at : ℕ) (s : Sender) → IsNewSender at s → HasNumbers s
new_numbers at s new = record {
  queued_below = subst (λ (v : Sender). All (λ (a : Accepted). a.number < v.queue.queue.accepted) (queued v)) (sym new) (All-nil (λ (a : Accepted). a.number < 0));
  begun_below = λ b is. (let none : s.begun ≡ None = ap (λ (v : Sender). v.begun) new in absurd (cc));
}

clone_sound : {X : Type 0} {F : X → Type 0} (boxed : (x : X) → framer.Ghosts (F x)) (socket at : ℕ) (stack : Stack) (fs : List Layer) (props : ConnectionProps) (piece : ℕ) (m : Member X F) (order : List ℕ) (place : ℕ) → IsClone boxed socket at stack fs props piece m → orders_of place order ≡ [] → IsSoundMember boxed order place m
clone_sound boxed socket at stack fs props piece m order place c none =
    let count : m.connection.sender.queue.queue.accepted ≡ 0 = ap (λ (v : Sender). v.queue.queue.accepted) c.sender in
    let size : length m.orders.items ≡ 0 = ap length c.none_accepted in
    record {
      sending = c.sending;
      receiving = c.receiving;
      numbers = new_numbers at m.connection.sender c.sender;
      orders = c.none_accepted ∙ sym none;
      counted = size ∙ sym count;
    }

-- a group that is the same as one that is the same
pub same_on : {X : Type 0} {F : X → Type 0} (g h k : Group X F) → IsSameGroup g h → IsSameGroup h k → IsSameGroup g k
same_on g h k p q = record {
  members = q.members ∙ p.members;
  rest = q.rest ∙ ap (λ (v : Group _ _). record v { members = k.members }) p.rest;
}

pub itself : {X : Type 0} {F : X → Type 0} (g : Group X F) → IsSameGroup g g
itself g = record { members = refl; rest = refl }

-- what a join leaves is what comes of the race
pub grown_by : {X : Type 0} {F : X → Type 0} (boxed : (x : X) → framer.Ghosts (F x)) (leaf timeout : ℕ) (before won after : Net) (g : Group X F) (result : Result ℕ CloneError) (h : Group X F) (n socket at : ℕ) →
    HasRaced g.target leaf timeout before won (answer.Ready n socket at) → IsJoined boxed socket at won after g result h → IsGrown boxed leaf timeout before after g result h
grown_by boxed leaf timeout before won after g (Ok place) h n socket at r j =
    let raced = won_by_first g.target leaf timeout before won n socket at r in
    let held = winner_held g.target leaf timeout before won n socket at r in
    record {
      socket = socket;
      at = at;
      raced = subst (λ net. HasRaced g.target leaf timeout before net (answer.Ready 0 socket at)) (sym j.1) raced;
      joined = j.0;
      held = subst (λ (net : Net). IsHeld net.trace socket (is_stream g.target.stack) false false) (sym j.1) held;
    }
grown_by boxed leaf timeout before won after g (Err (error.LimitReached limit)) h n socket at r j = let z : error.LimitReached limit ≡ error.NoMemory = j.0 in cc
grown_by boxed leaf timeout before won after g (Err (error.Failed a)) h n socket at r j = let z : error.Failed a ≡ error.NoMemory = j.0 in absurd (cc)
grown_by boxed leaf timeout before won after g (Err error.NoMemory) h n socket at r j = record {
  same = j.1;
  undone = inr (record {
    raced_to = won;
    socket = socket;
    at = at;
    raced = won_by_first g.target leaf timeout before won n socket at r;
    closed = j.2;
  });
}

pub grown_failed : {X : Type 0} {F : X → Type 0} (leaf timeout : ℕ) (before after : Net) (g : Group X F) (a told : RaceAnswer) → told ≡ a → NamesNone a → HasRaced g.target leaf timeout before after a → Fails leaf timeout before after g told g
grown_failed leaf timeout before after g a told is none r = subst (λ t. Fails leaf timeout before after g t g) (sym is) (record {
  failure = failed g.target leaf timeout before after a none r;
  raced = r;
  same = itself g;
})

-- a member that joined a group that was the same
joined_on : {X : Type 0} {F : X → Type 0} (boxed : (x : X) → framer.Ghosts (F x)) (socket at : ℕ) (g h : Group X F) (place : ℕ) (k : Group X F) → IsSameGroup g h → HasJoined boxed socket at h place k → HasJoined boxed socket at g place k
joined_on boxed socket at g h place k same j =
    let target = ap (λ (v : Group _ _). v.target) same.rest in
    let chain = ap (λ (v : Group _ _). v.chain) same.rest in
    let props = ap (λ (v : Group _ _). v.props) same.rest in
    let piece = ap (λ (v : Group _ _). v.piece) same.rest in
    record {
      member = j.member;
      clone = subst (λ p. IsClone boxed socket at g.target.stack (layers_of boxed g.chain) g.props p j.member) piece
          (subst (λ p. IsClone boxed socket at g.target.stack (layers_of boxed g.chain) p h.piece j.member) props
          (subst (λ c. IsClone boxed socket at g.target.stack (layers_of boxed c) h.props h.piece j.member) chain
          (subst (λ (t : Target). IsClone boxed socket at t.stack (layers_of boxed h.chain) h.props h.piece j.member) target j.clone)));
      place_is = j.place_is ∙ ap length same.members;
      members = j.members ∙ ap (λ v. v ++ j.member ∷ []) same.members;
      rest = j.rest ∙ ap (λ (v : Group _ _). record v { members = k.members }) same.rest;
    }

joins_on : {X : Type 0} {F : X → Type 0} (boxed : (x : X) → framer.Ghosts (F x)) (leaf timeout : ℕ) (before reserved after : Net) (g h : Group X F) (place : ℕ) (k : Group X F) → IsSameGroup g h → HasNotRaced before reserved → Joins boxed leaf timeout reserved after h place k → Joins boxed leaf timeout before after g place k
joins_on boxed leaf timeout before reserved after g h place k same none j =
    let target = ap (λ (v : Group _ _). v.target) same.rest in
    record {
      socket = j.socket;
      at = j.at;
      raced = raced_since g.target leaf timeout before reserved after (answer.Ready 0 j.socket j.at) none (subst (λ t. HasRaced t leaf timeout reserved after (answer.Ready 0 j.socket j.at)) target j.raced);
      joined = joined_on boxed j.socket j.at g h place k same j.joined;
      held = subst (λ (t : Target). IsHeld after.trace j.socket (is_stream t.stack) false false) target j.held;
    }

undone_on : {X : Type 0} {F : X → Type 0} (leaf timeout : ℕ) (before reserved after : Net) (g h : Group X F) → IsSameGroup g h → HasNotRaced before reserved → (HasNotRaced reserved after) ⊎ (HasClosedAgain h.target leaf timeout reserved after) → (HasNotRaced before after) ⊎ (HasClosedAgain g.target leaf timeout before after)
undone_on leaf timeout before reserved after g h same none (inl n) =
    let one = none.spare in
    let two = n.spare in
    inl (record { same = n.same ∙ ap (λ (v : Net). with_spare v after.spare) none.same; spare = omega arith })
undone_on leaf timeout before reserved after g h same none (inr c) =
    let target = ap (λ (v : Group _ _). v.target) same.rest in
    inr (record {
      raced_to = c.raced_to;
      socket = c.socket;
      at = c.at;
      raced = raced_since g.target leaf timeout before reserved c.raced_to (answer.Ready 0 c.socket c.at) none (subst (λ t. HasRaced t leaf timeout reserved c.raced_to (answer.Ready 0 c.socket c.at)) target c.raced);
      closed = c.closed;
    })

-- what comes of the race behind the room that was made is what comes of the clone
pub cloned_by : {X : Type 0} {F : X → Type 0} (boxed : (x : X) → framer.Ghosts (F x)) (leaf timeout : ℕ) (before reserved after : Net) (g h : Group X F) (result : Result ℕ CloneError) (k : Group X F) →
    length g.members.items < most_members g.props → IsSameGroup g h → HasNotRaced before reserved → IsGrown boxed leaf timeout reserved after h result k → IsCloned boxed leaf timeout before after g result k
cloned_by boxed leaf timeout before reserved after g h (Ok place) k below same none j = (below, joins_on boxed leaf timeout before reserved after g h place k same none j)
cloned_by boxed leaf timeout before reserved after g h (Err (error.LimitReached limit)) k below same none j = absurd j
cloned_by boxed leaf timeout before reserved after g h (Err (error.Failed a)) k below same none j =
    let target = ap (λ (v : Group _ _). v.target) same.rest in (
      below,
      record {
        failure = j.failure;
        raced = raced_since g.target leaf timeout before reserved after a none (subst (λ t. HasRaced t leaf timeout reserved after a) target j.raced);
        same = same_on g h k same j.same;
      },
    )
cloned_by boxed leaf timeout before reserved after g h (Err error.NoMemory) k below same none j =
    (below, record { same = same_on g h k same j.same; undone = undone_on leaf timeout before reserved after g h same none j.undone })

below_sixteen : (props : ConnectionProps) (n : ℕ) → n < most_members props → n < 16
below_sixteen props n h = omega arith

-- a clone leaves a sound group sound
pub cloned_sound : {X : Type 0} {F : X → Type 0} (boxed : (x : X) → framer.Ghosts (F x)) (leaf timeout : ℕ) (before after : Net) (g : Group X F) (result : Result ℕ CloneError) (h : Group X F) → IsCloned boxed leaf timeout before after g result h → IsSoundGroup boxed g → IsSoundGroup boxed h
cloned_sound boxed leaf timeout before after g (Ok place) h c sound =
    let j = c.1.joined in
    sound_joined boxed g h j.member j.members (ap (λ (v : Group _ _). v.order.items) j.rest) (ap (λ (v : Group _ _). v.piece) j.rest) (below_sixteen g.props (length g.members.items) c.0) (λ none. clone_sound boxed c.1.socket c.1.at g.target.stack (layers_of boxed g.chain) g.props g.piece j.member g.order.items (length g.members.items) j.clone none) sound
cloned_sound boxed leaf timeout before after g (Err (error.LimitReached limit)) h c sound = subst (IsSoundGroup boxed) (sym c.same) sound
cloned_sound boxed leaf timeout before after g (Err (error.Failed a)) h c sound = sound_same boxed g h c.1.same.members (ap (λ (v : Group _ _). v.order.items) c.1.same.rest) (ap (λ (v : Group _ _). v.piece) c.1.same.rest) sound
cloned_sound boxed leaf timeout before after g (Err error.NoMemory) h c sound = sound_same boxed g h c.1.same.members (ap (λ (v : Group _ _). v.order.items) c.1.same.rest) (ap (λ (v : Group _ _). v.piece) c.1.same.rest) sound

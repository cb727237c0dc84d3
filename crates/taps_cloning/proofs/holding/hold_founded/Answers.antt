use Rattle.std.proofs.Common.{◌≡◌, ◌≤◌, ◌<◌, ◌+◌, ◌*◌, [], length, refl, sym, ◌∙◌, subst, arith, Some, None}
use Rattle.std.specs.List.{All}
use Rattle.taps_group_exchange.specs.declared.addressed.Addressed.{Addressed}
use Rattle.taps_cloning.specs.GroupRules.{terms_of}
use Rattle.taps_cloning.proofs.Holds.{seen, all_members, members_few, room_for_all, room_for_some, none_held, exchanged_held, cut_held, stopped_held, short_held}
use Rattle.taps_cloning.proofs.Recorders.{regroup, told_of_group, group_told}
use Rattle.taps_cloning.proofs.holding.hold_founded.Goals as goal

pub returns-in-Err : goal.returns-in-Err
returns-in-Err g c = λ fs first founded.
    none_held _ g.N.Sockets.Becomes g.N.Sockets.net c.args.net.now c.finish_all.new.net (terms_of c.args.terms.now fs c.args.priorities.now c.args.messages.items) first (g.N.Sockets.net c.args.net.now.net) c.args.group founded c.finish_all.ensures.becomes

pub exchange_from-requires-clause-few : goal.exchange_from-requires-clause-few
exchange_from-requires-clause-few g c =
    let k = c.requires.founded in
    let terms = terms_of c.args.terms.now k.layers c.args.priorities.now c.args.messages.items in
    let founded = regroup _ terms k.first (g.N.Sockets.net c.args.net.now.net) (seen g.N.Sockets.net c.args.net.now) [] c.args.group refl refl k.group in
    let opened = (rw c.in-Ok-None.field-0-is at c.in-Ok-None.ensures.cloned) k.layers c.args.priorities.now c.args.messages.items k.first founded in
    let count : length c.open_group.new.group.members.items ≡ c.args.terms.now.clones + 1 = all_members _ g.N.Sockets.Becomes g.N.Sockets.net c.args.net.now c.open_group.new.net c.open_group.new.net terms k.first c.open_group.new.group g.met.N.Sockets.becomes_on (seen g.N.Sockets.net c.args.net.now) (seen g.N.Sockets.net c.open_group.new.net) opened in
    let few = c.requires.few_priorities in
    omega (arith, count, few)

pub exchange_from-requires-clause-addressed : goal.exchange_from-requires-clause-addressed
exchange_from-requires-clause-addressed g c =
    let k = c.requires.founded in
    let terms = terms_of c.args.terms.now k.layers c.args.priorities.now c.args.messages.items in
    let founded = regroup _ terms k.first (g.N.Sockets.net c.args.net.now.net) (seen g.N.Sockets.net c.args.net.now) [] c.args.group refl refl k.group in
    let opened = (rw c.in-Ok-None.field-0-is at c.in-Ok-None.ensures.cloned) k.layers c.args.priorities.now c.args.messages.items k.first founded in
    let count : length c.open_group.new.group.members.items ≡ c.args.terms.now.clones + 1 = all_members _ g.N.Sockets.Becomes g.N.Sockets.net c.args.net.now c.open_group.new.net c.open_group.new.net terms k.first c.open_group.new.group g.met.N.Sockets.becomes_on (seen g.N.Sockets.net c.args.net.now) (seen g.N.Sockets.net c.open_group.new.net) opened in
    subst (λ n. All (λ (a : Addressed). a.member < n) c.args.messages.items) (sym count) c.requires.addressed

pub exchange_from-requires-clause-spare : goal.exchange_from-requires-clause-spare
exchange_from-requires-clause-spare g c =
    let k = c.requires.founded in
    let terms = terms_of c.args.terms.now k.layers c.args.priorities.now c.args.messages.items in
    let founded = regroup _ terms k.first (g.N.Sockets.net c.args.net.now.net) (seen g.N.Sockets.net c.args.net.now) [] c.args.group refl refl k.group in
    let opened = (rw c.in-Ok-None.field-0-is at c.in-Ok-None.ensures.cloned) k.layers c.args.priorities.now c.args.messages.items k.first founded in
    room_for_all _ g.N.Sockets.Becomes g.N.Sockets.net c.args.net.now c.open_group.new.net c.open_group.new.net terms k.first c.open_group.new.group g.met.N.Sockets.becomes_on (seen g.N.Sockets.net c.args.net.now) (seen g.N.Sockets.net c.open_group.new.net) None opened c.requires.spare

pub exchange_from-requires-clause-new_group : goal.exchange_from-requires-clause-new_group
exchange_from-requires-clause-new_group g c =
    let k = c.requires.founded in
    let terms = terms_of c.args.terms.now k.layers c.args.priorities.now c.args.messages.items in
    let founded = regroup _ terms k.first (g.N.Sockets.net c.args.net.now.net) (seen g.N.Sockets.net c.args.net.now) [] c.args.group refl refl k.group in
    let opened = (rw c.in-Ok-None.field-0-is at c.in-Ok-None.ensures.cloned) k.layers c.args.priorities.now c.args.messages.items k.first founded in
    (terms, group_told _ terms k.first c.told-at.result (seen g.N.Sockets.net c.open_group.new.net) opened.races c.open_group.new.group opened.group c.open_group.ensures.opened c.told-at.ensures)

pub returns-in-Ok-exchange_from : goal.returns-in-Ok-exchange_from
returns-in-Ok-exchange_from g c = λ fs first k.
    let terms = terms_of c.args.terms.now fs c.args.priorities.now c.args.messages.items in
    let founded = regroup _ terms first (g.N.Sockets.net c.args.net.now.net) (seen g.N.Sockets.net c.args.net.now) [] c.args.group refl refl k in
    let opened = (rw c.in-Ok-None.field-0-is at c.in-Ok-None.ensures.cloned) fs c.args.priorities.now c.args.messages.items first founded in
    let told = told_of_group _ terms first c.told-at.result (seen g.N.Sockets.net c.open_group.new.net) opened.races c.open_group.new.group opened.group c.told-at.ensures in
    let group = group_told _ terms first c.told-at.result (seen g.N.Sockets.net c.open_group.new.net) opened.races c.open_group.new.group opened.group c.open_group.ensures.opened c.told-at.ensures in
    exchanged_held _ g.N.Sockets.Becomes g.N.Sockets.net c.args.net.now c.open_group.new.net c.exchange_from.new.net terms first c.open_group.new.group g.met.N.Sockets.becomes_on c.in-Ok-exchange_from.field-0 c.told-at.result
    (λ calls. g.met.N.Sockets.shows c.args.net.now.net c.open_group.new.net.net calls) opened told (c.in-Ok-exchange_from.ensures fs group)

pub returns-in-Ok-None : goal.returns-in-Ok-None
returns-in-Ok-None g c = λ fs first k.
    let terms = terms_of c.args.terms.now fs c.args.priorities.now c.args.messages.items in
    let founded = regroup _ terms first (g.N.Sockets.net c.args.net.now.net) (seen g.N.Sockets.net c.args.net.now) [] c.args.group refl refl k in
    let opened = (rw c.in-Ok-None.field-0-is at c.in-Ok-None.ensures.cloned) fs c.args.priorities.now c.args.messages.items first founded in
    let told = told_of_group _ terms first c.told-at.result (seen g.N.Sockets.net c.open_group.new.net) opened.races c.open_group.new.group opened.group c.told-at.ensures in
    let group = group_told _ terms first c.told-at.result (seen g.N.Sockets.net c.open_group.new.net) opened.races c.open_group.new.group opened.group c.open_group.ensures.opened c.told-at.ensures in
    cut_held _ g.N.Sockets.Becomes g.N.Sockets.net c.args.net.now c.open_group.new.net c.exchange_from.new.net terms first c.open_group.new.group g.met.N.Sockets.becomes_on c.told-at.result
    (λ calls. g.met.N.Sockets.shows c.args.net.now.net c.open_group.new.net.net calls) opened told (c.in-Err-exchange_from.ensures fs group)

pub tell_nothing-members-requires-clause-room : goal.tell_nothing-members-requires-clause-room
tell_nothing-members-requires-clause-room g c =
    let k = c.requires.founded in
    let terms = terms_of c.args.terms.now k.layers c.args.priorities.now c.args.messages.items in
    let founded = regroup _ terms k.first (g.N.Sockets.net c.args.net.now.net) (seen g.N.Sockets.net c.args.net.now) [] c.args.group refl refl k.group in
    let opened = (rw c.in-Ok-Some.field-0-is at c.in-Ok-Some.ensures.cloned) k.layers c.args.priorities.now c.args.messages.items k.first founded in
    let few : length c.open_group.new.group.members.items ≤ c.args.terms.now.clones + 1 = members_few _ g.N.Sockets.Becomes g.N.Sockets.net c.args.net.now c.open_group.new.net c.open_group.new.net terms k.first c.open_group.new.group g.met.N.Sockets.becomes_on (seen g.N.Sockets.net c.args.net.now) (seen g.N.Sockets.net c.open_group.new.net) (Some c.in-Ok-Some.outcome) opened in
    let count = c.len.ensures in
    let room = c.in-Ok.ensures.room in
    omega (arith, few, count, room)

pub finish_all-requires-in-Ok-Some-clause-spare : goal.finish_all-requires-in-Ok-Some-clause-spare
finish_all-requires-in-Ok-Some-clause-spare g c =
    let k = c.requires.founded in
    let terms = terms_of c.args.terms.now k.layers c.args.priorities.now c.args.messages.items in
    let founded = regroup _ terms k.first (g.N.Sockets.net c.args.net.now.net) (seen g.N.Sockets.net c.args.net.now) [] c.args.group refl refl k.group in
    let opened = (rw c.in-Ok-Some.field-0-is at c.in-Ok-Some.ensures.cloned) k.layers c.args.priorities.now c.args.messages.items k.first founded in
    let room : 3 * length c.open_group.new.group.members.items ≤ c.open_group.new.net.spare = room_for_all _ g.N.Sockets.Becomes g.N.Sockets.net c.args.net.now c.open_group.new.net c.open_group.new.net terms k.first c.open_group.new.group g.met.N.Sockets.becomes_on (seen g.N.Sockets.net c.args.net.now) (seen g.N.Sockets.net c.open_group.new.net) (Some c.in-Ok-Some.outcome) opened c.requires.spare in
    omega (arith, room)

pub returns-in-Ok-Some : goal.returns-in-Ok-Some
returns-in-Ok-Some g c = λ fs first k.
    let terms = terms_of c.args.terms.now fs c.args.priorities.now c.args.messages.items in
    let founded = regroup _ terms first (g.N.Sockets.net c.args.net.now.net) (seen g.N.Sockets.net c.args.net.now) [] c.args.group refl refl k in
    let opened = (rw c.in-Ok-Some.field-0-is at c.in-Ok-Some.ensures.cloned) fs c.args.priorities.now c.args.messages.items first founded in
    stopped_held _ g.N.Sockets.Becomes g.N.Sockets.net c.args.net.now c.open_group.new.net c.finish_all-in-Ok-Some.new.net terms first c.open_group.new.group g.met.N.Sockets.becomes_on c.in-Ok-Some.outcome c.tell_nothing-members.result.items
    opened c.tell_nothing-members.ensures.nothing (c.tell_nothing-members.ensures.count ∙ c.len.ensures) c.finish_all-in-Ok-Some.ensures.net c.finish_all-in-Ok-Some.ensures.becomes

pub finish_all-requires-in-Err-open_group-clause-spare : goal.finish_all-requires-in-Err-open_group-clause-spare
finish_all-requires-in-Err-open_group-clause-spare g c =
    let k = c.requires.founded in
    let terms = terms_of c.args.terms.now k.layers c.args.priorities.now c.args.messages.items in
    let founded = regroup _ terms k.first (g.N.Sockets.net c.args.net.now.net) (seen g.N.Sockets.net c.args.net.now) [] c.args.group refl refl k.group in
    let opened = c.in-Err-open_group.ensures.cloned k.layers c.args.priorities.now c.args.messages.items k.first founded in
    room_for_some (λ vtable. (g.dyn-1.0.entry vtable).1) g.N.Sockets.Becomes g.N.Sockets.net c.args.net.now c.open_group.new.net c.open_group.new.net terms k.first c.open_group.new.group g.met.N.Sockets.becomes_on (seen g.N.Sockets.net c.args.net.now) (seen g.N.Sockets.net c.open_group.new.net) opened c.requires.spare

pub returns : goal.returns
returns g c = λ fs first k.
    let terms = terms_of c.args.terms.now fs c.args.priorities.now c.args.messages.items in
    let founded = regroup _ terms first (g.N.Sockets.net c.args.net.now.net) (seen g.N.Sockets.net c.args.net.now) [] c.args.group refl refl k in
    let opened = c.in-Err-open_group.ensures.cloned fs c.args.priorities.now c.args.messages.items first founded in
    short_held (λ vtable. (g.dyn-1.0.entry vtable).1) g.N.Sockets.Becomes g.N.Sockets.net c.args.net.now c.open_group.new.net c.finish_all-in-Err-open_group.new.net terms first c.open_group.new.group g.met.N.Sockets.becomes_on opened c.finish_all-in-Err-open_group.ensures.becomes

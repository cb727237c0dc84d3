-- What is kept goes on standing for what was read, where the next is given out.
use Rattle.std.proofs.Common.{◌≡◌, ℕ, ◌+◌, ◌≤◌, Bool, true, false, List, [], ◌∷◌, ◌++◌, length, Option, Some, None, refl, sym, ap, ◌∙◌, subst, arith, length-append}
use Rattle.std.proofs.lemmas.List.{append-nil, map-append, length-map}
use Rattle.std.specs.List.{concat}
use Rattle.taps_framer.specs.Layers.{Layer}
use Rattle.taps_chain.specs.Chained.{chained, IsSpoken}
use Rattle.taps_chain.specs.Heard.{Ending, needs, fails, IsEnding}
use Rattle.taps_chain.specs.declared.heard.BadAt.{BadAt}
use Rattle.taps_chain.specs.declared.heard.Heard.{Heard}
use Rattle.taps_chain.specs.declared.heard.Heard.TheVariants as heard
use Rattle.taps_chain.proofs.Spelled.{begun_more, begun_ends}
use Rattle.taps_connection.specs.Unread.{Unread, framed, plain, datagrams}
use Rattle.taps_connection.specs.Receives.{IsGivenOut}
use Rattle.taps_connection.specs.Histories.{Given, message, bad_datagram, given_by, IsGivenBy, AreGivenBy, IsHeardSoFar, AreGivenSoFar, Represents, RepresentsRead, IsDecoded, Decodes}

-- one datagram more
given_more : (fs : List Layer) (xs : List (List ℕ)) (given : List Given) (x : List ℕ) (g : Given) → AreGivenBy fs xs given → IsGivenBy fs x g → AreGivenBy fs (xs ++ x ∷ []) (given ++ g ∷ [])
given_more fs [] [] x g a b = (b, tt)
given_more fs (y ∷ xs) (h ∷ given) x g a b = (a.0, given_more fs xs given x g a.1 b)
given_more fs [] (h ∷ given) x g a b = absurd a
given_more fs (y ∷ xs) [] x g a b = absurd a

counted_more : (given : List Given) (g : Given) (k : ℕ) → k ≡ length given → k + 1 ≡ length (given ++ g ∷ [])
counted_more given g k e = omega (arith, length-append given (g ∷ []))

passed : (fs : List Layer) (read : List (List ℕ)) (given : List Given) (x : List ℕ) (k : ℕ) (g : Given) → IsGivenBy fs x g → AreGivenSoFar fs read given (Some x) k → AreGivenSoFar fs read (given ++ g ∷ []) None (k + 1)
passed fs read given x k g b h = record {
  before = h.before ++ x ∷ [];
  split = h.split ∙ sym (append-nil (h.before ++ x ∷ []));
  given_out = given_more fs h.before given x g h.given_out b;
  counted = counted_more given g k h.counted;
}

-- one message more of a stream
heard_more : (fs : List Layer) (x : List ℕ) (given : List Given) (y rest m : List ℕ) (k : ℕ) → IsSpoken fs k m → y ≡ chained fs k m ++ rest → IsHeardSoFar fs x given y k None → IsHeardSoFar fs x (given ++ message m ∷ []) rest (k + 1) None
heard_more fs x given y rest m k s e h =
    let at : k ≡ 0 + length h.messages = (let c = h.count in omega arith) in
    record {
      messages = h.messages ++ m ∷ [];
      given_out = ap (λ v. v ++ message m ∷ []) h.given_out ∙ sym (map-append message h.messages (m ∷ []));
      begun = begun_more fs 0 k x h.messages y m rest at h.begun s e;
      count = (let c = h.count in omega (arith, length-append h.messages (m ∷ [])));
      broken = tt;
    }

same : (given : List Given) → given ≡ given ++ []
same given = sym (append-nil given)

-- what was answered is given out
pub gives_on : (fs : List Layer) (ended : Bool) (u : Unread) (answer : Heard) (v : Unread) → IsGivenOut fs ended u answer v → (read : List (List ℕ)) (given : List Given) →
    Represents fs ended u read given → Represents fs ended v read (given ++ given_by u answer)
gives_on fs ended (framed piece x k None) (heard.Message m) v g read given h =
    subst (λ w. Represents fs ended w read (given ++ message m ∷ [])) (sym g.1.2) (heard_more fs (concat read) given x g.0 m k g.1.0 g.1.1 h)
gives_on fs ended (framed piece x k None) heard.Need v g read given h =
    subst (λ w. Represents fs ended w read (given ++ [])) (sym g.1) (subst (λ l. IsHeardSoFar fs (concat read) l x k None) (same given) h)
gives_on fs ended (framed piece x k None) (heard.Bad b) v g read given h =
    subst (λ w. Represents fs ended w read (given ++ [])) (sym g.2)
    (subst (λ l. IsHeardSoFar fs (concat read) l x k (Some b)) (same given) (record { messages = h.messages; given_out = h.given_out; begun = h.begun; count = h.count; broken = (g.0, g.1) }))
gives_on fs ended (framed piece x k None) heard.NoMemory v g read given h =
    subst (λ w. Represents fs ended w read (given ++ [])) (sym g) (subst (λ l. IsHeardSoFar fs (concat read) l x k None) (same given) h)
gives_on fs ended (framed piece x k (Some b)) answer v g read given h =
    subst (λ w. Represents fs ended w read (given ++ given_by (framed piece x k (Some b)) answer)) (sym g.1)
    (subst (λ a. IsHeardSoFar fs (concat read) (given ++ given_by (framed piece x k (Some b)) a) x k (Some b)) (sym g.0) (subst (λ l. IsHeardSoFar fs (concat read) l x k (Some b)) (same given) h))
gives_on fs ended (plain piece x whole) (heard.Message m) v g read given h =
    whole_given fs ended piece x whole m v g.0 g.1 g.2 g.3 g.4 read given h
  where
    whole_given : (fs : List Layer) (ended : Bool) (piece : ℕ) (x : List ℕ) (whole : Bool) (m : List ℕ) (v : Unread) → length x ≤ 4194304 → ended ≡ true → whole ≡ false → m ≡ x → v ≡ plain piece [] true → (read : List (List ℕ)) (given : List Given) →
        Represents fs ended (plain piece x whole) read given → Represents fs ended v read (given ++ message m ∷ [])
    whole_given fs ended piece x false m v few e w i j read given h =
        let all : x ≡ concat read = h.1 in
        subst (λ u. Represents fs ended u read (given ++ message m ∷ [])) (sym j) (e, subst (λ l. length l ≤ 4194304) all few, ap (λ l. l ++ message m ∷ []) h.0 ∙ ap (λ l. message l ∷ []) (i ∙ all), refl)
    whole_given fs ended piece x true m v few e w i j read given h = absurd (cc)
gives_on fs ended (plain piece x whole) heard.Need v g read given h =
    subst (λ w. Represents fs ended w read (given ++ [])) (sym g.2) (subst (λ l. Represents fs ended (plain piece x whole) read l) (same given) h)
gives_on fs ended (plain piece x whole) (heard.Bad b) v g read given h =
    subst (λ w. Represents fs ended w read (given ++ [])) (sym g.2) (subst (λ l. Represents fs ended (plain piece x whole) read l) (same given) h)
gives_on fs ended (plain piece x whole) heard.NoMemory v g read given h = absurd g
gives_on fs ended (datagrams None k) answer v g read given h =
    subst (λ w. Represents fs ended w read (given ++ given_by (datagrams None k) answer)) (sym g.1)
    (subst (λ a. AreGivenSoFar fs read (given ++ given_by (datagrams None k) a) None k) (sym g.0) (subst (λ l. AreGivenSoFar fs read l None k) (same given) h))
gives_on fs ended (datagrams (Some x) k) (heard.Message m) v g read given h =
    subst (λ w. Represents fs ended w read (given ++ message m ∷ [])) (sym g.2) (passed fs read given x k (message m) (g.0, g.1) h)
gives_on fs ended (datagrams (Some x) k) heard.Need v g read given h = absurd g
gives_on fs ended (datagrams (Some x) k) (heard.Bad b) v g read given h =
    subst (λ w. Represents fs ended w read (given ++ bad_datagram b.layer b.place ∷ [])) (sym g.2) (passed fs read given x k (bad_datagram b.layer b.place) g.0 h)
gives_on fs ended (datagrams (Some x) k) heard.NoMemory v g read given h =
    subst (λ w. Represents fs ended w read (given ++ [])) (sym g) (subst (λ l. AreGivenSoFar fs read l (Some x) k) (same given) h)

-- where the pieces are observable
pub reads_given : (fs : List Layer) (ended : Bool) (u : Unread) (answer : Heard) (v : Unread) → IsGivenOut fs ended u answer v → (read : Option (List (List ℕ))) (given : List Given) →
    RepresentsRead fs ended u read given → RepresentsRead fs ended v read (given ++ given_by u answer)
reads_given fs ended u answer v g None given h = tt
reads_given fs ended u answer v g (Some read) given h = gives_on fs ended u answer v g read given h

-- so are the messages that the bytes of a stream decode to
all_decoded : (fs : List Layer) (x : List ℕ) (given : List Given) (y : List ℕ) (k : ℕ) (bad : Option BadAt) (e : Ending) → IsHeardSoFar fs x given y k bad → IsEnding fs k y e → IsDecoded fs x (given ++ []) e y
all_decoded fs x given y k bad e h i =
    let at : k ≡ 0 + length h.messages = (let c = h.count in omega arith) in
    record { messages = h.messages; given_out = append-nil given ∙ h.given_out; heard = begun_ends fs 0 k x h.messages y e at h.begun i }

given_count : (fs : List Layer) (x : List ℕ) (given : List Given) (y : List ℕ) (k m : ℕ) (bad : Option BadAt) → IsHeardSoFar fs x given y k bad → m ≡ k → m ≡ length (given ++ [])
given_count fs x given y k m bad h e = e ∙ (h.count ∙ (sym (length-map h.messages message) ∙ ap (λ l. length l) (sym (append-nil given ∙ h.given_out))))

pub decodes_on : (fs : List Layer) (ended : Bool) (u : Unread) (answer : Heard) (v : Unread) → IsGivenOut fs ended u answer v → (read : List (List ℕ)) (given : List Given) →
    Represents fs ended u read given → Decodes fs v read (given ++ given_by u answer) answer
decodes_on fs ended (framed piece x k None) (heard.Message m) v g read given h = subst (λ w. Decodes fs w read (given ++ message m ∷ []) (heard.Message m)) (sym g.1.2) tt
decodes_on fs ended (framed piece x k None) heard.Need v g read given h =
    subst (λ w. Decodes fs w read (given ++ []) heard.Need) (sym g.1) (all_decoded fs (concat read) given x k None needs h g.0)
decodes_on fs ended (framed piece x k None) (heard.Bad b) v g read given h =
    subst (λ w. Decodes fs w read (given ++ []) (heard.Bad b)) (sym g.2)
    (all_decoded fs (concat read) given x k None (fails b.layer b.place) h g.0, given_count fs (concat read) given x k b.message None h g.1)
decodes_on fs ended (framed piece x k None) heard.NoMemory v g read given h = subst (λ w. Decodes fs w read (given ++ []) heard.NoMemory) (sym g) tt
decodes_on fs ended (framed piece x k (Some b)) answer v g read given h =
    subst (λ a. Decodes fs v read (given ++ given_by (framed piece x k (Some b)) a) a) (sym g.0) (subst (λ w. Decodes fs w read (given ++ []) (heard.Bad b)) (sym g.1)
    (all_decoded fs (concat read) given x k (Some b) (fails b.layer b.place) h h.broken.0, given_count fs (concat read) given x k b.message (Some b) h h.broken.1))
decodes_on fs ended (plain piece x whole) (heard.Message m) v g read given h = subst (λ w. Decodes fs w read (given ++ message m ∷ []) (heard.Message m)) (sym g.4) tt
decodes_on fs ended (plain piece x whole) heard.Need v g read given h = subst (λ w. Decodes fs w read (given ++ []) heard.Need) (sym g.2) tt
decodes_on fs ended (plain piece x whole) (heard.Bad b) v g read given h = subst (λ w. Decodes fs w read (given ++ []) (heard.Bad b)) (sym g.2) tt
decodes_on fs ended (plain piece x whole) heard.NoMemory v g read given h = absurd g
decodes_on fs ended (datagrams None k) answer v g read given h = subst (λ a. Decodes fs v read (given ++ given_by (datagrams None k) a) a) (sym g.0) (subst (λ w. Decodes fs w read (given ++ []) heard.Need) (sym g.1) tt)
decodes_on fs ended (datagrams (Some x) k) (heard.Message m) v g read given h = subst (λ w. Decodes fs w read (given ++ message m ∷ []) (heard.Message m)) (sym g.2) tt
decodes_on fs ended (datagrams (Some x) k) heard.Need v g read given h = absurd g
decodes_on fs ended (datagrams (Some x) k) (heard.Bad b) v g read given h = subst (λ w. Decodes fs w read (given ++ bad_datagram b.layer b.place ∷ []) (heard.Bad b)) (sym g.2) tt
decodes_on fs ended (datagrams (Some x) k) heard.NoMemory v g read given h = subst (λ w. Decodes fs w read (given ++ []) heard.NoMemory) (sym g) tt

-- A configuration is read as it was written.
use Rattle.std.proofs.Common.{◌≡◌, ℕ, true, List, [], ◌∷◌, Some, Ok, refl, sym, ap, ◌∙◌, arith, codes, pos, Less}
use Rattle.std.specs.Prelude.{⊤, option_map}
use Rattle.std.specs.Ordering.{match_ordering}
use Rattle.std.proofs.lemmas.Int.{ints}
use Rattle.serde_json.specs.Data.{Data, string, object, Members, no_members, member, put}
use Rattle.serde_json.specs.Written.{compact_text}
use Rattle.kz_types.specs.declared.bodies.Pair.{Pair}
use Rattle.kz_types.specs.declared.bodies.Body.TheVariants as body
use Rattle.kz_types.specs.declared.key.EntityKey.{EntityKey}
use Rattle.kz_types.specs.declared.key.EntityKey.TheVariants.{Topic, Partition, TopicConfig, BrokerConfig, Client, User, UserClient, Ip, Acl, Producer}
use Rattle.kz_types.specs.Order.{bytes_cmp}
use Rattle.kz_types.proofs.Order.{bytes_order, cmp_greater}
use Rattle.kz_spec_data.specs.Bodies.{with_texts, texts_in, config_of, whole_data, body_of, read_body, text_of_body, is_of_kind}
use Rattle.kz_laws_values.specs.Readable.{AreTexts, IsBelow, AreRising, IsConfiguration}
use Rattle.kz_laws_values.proofs.Plain.{puts, IsPlain, ArePlainMembers, object_says, whole_is_plain, word}

-- ---- members that rise

-- members and then others
abbrev pub after : Members → Members → Members
after no_members others = others
after (member k d ms) others = member k d (after ms others)

pub after_none : (ms : Members) → after ms no_members ≡ ms
after_none no_members = refl
after_none (member k d ms) = ap (member k d) (after_none ms)

pub after_after : (ms others more : Members) → after (after ms others) more ≡ after ms (after others more)
after_after no_members others more = refl
after_after (member k d ms) others more = ap (member k d) (after_after ms others more)

-- each name of the members is below this one
abbrev pub AreBelow : Members → List ℕ → Type 0
AreBelow no_members name = ⊤
AreBelow (member k d ms) name = (bytes_cmp k name ≡ Less) × AreBelow ms name

pub put_last : (k : List ℕ) (d : Data) (ms : Members) → AreBelow ms k → put k d ms ≡ after ms (member k d no_members)
put_last k d no_members h = refl
put_last k d (member l e ms) h =
    ap (λ r. match_ordering r (member k d (member l e ms)) (member l d ms) (member l e (put k d ms))) (cmp_greater bytes_order k l h.0)
    ∙ ap (member l e) (put_last k d ms h.1)

pub below_after : (ms : Members) (k : List ℕ) (d : Data) (name : List ℕ) → AreBelow ms name → bytes_cmp k name ≡ Less → AreBelow (after ms (member k d no_members)) name
below_after no_members k d name h less = (less, tt)
below_after (member l e ms) k d name h less = (h.0, below_after ms k d name h.1 less)

-- ---- members of texts

-- a member for each pair
abbrev pub texts_members : List Pair → Members
texts_members [] = no_members
texts_members (pair ∷ pairs) = member pair.name (string pair.value) (texts_members pairs)

-- each name of the members is below that of each pair
abbrev pub AreAllBelow : Members → List Pair → Type 0
AreAllBelow ms [] = ⊤
AreAllBelow ms (pair ∷ pairs) = AreBelow ms pair.name × AreAllBelow ms pairs

pub all_below_after : (ms : Members) (k : List ℕ) (d : Data) (pairs : List Pair) → AreAllBelow ms pairs → IsBelow k pairs → AreAllBelow (after ms (member k d no_members)) pairs
all_below_after ms k d [] h less = tt
all_below_after ms k d (pair ∷ pairs) h less = (below_after ms k d pair.name h.0 less.0, all_below_after ms k d pairs h.1 less.1)

texts_rise : (ms : Members) (pairs : List Pair) → AreAllBelow ms pairs → AreRising pairs → with_texts ms pairs ≡ after ms (texts_members pairs)
texts_rise ms [] h r = sym (after_none ms)
texts_rise ms (pair ∷ pairs) h r =
    ap (λ found. with_texts found pairs) (put_last pair.name (string pair.value) ms h.0)
    ∙ texts_rise (after ms (member pair.name (string pair.value) no_members)) pairs (all_below_after ms pair.name (string pair.value) pairs h.1 r.0) r.1
    ∙ after_after ms (member pair.name (string pair.value) no_members) (texts_members pairs)

pub none_below : (pairs : List Pair) → AreAllBelow no_members pairs
none_below [] = tt
none_below (pair ∷ pairs) = (tt, none_below pairs)

pub written_texts : (pairs : List Pair) → AreRising pairs → with_texts no_members pairs ≡ texts_members pairs
written_texts pairs r = texts_rise no_members pairs (none_below pairs) r

pub puts_texts : (pairs : List Pair) (found : Members) → puts (texts_members pairs) found ≡ with_texts found pairs
puts_texts [] found = refl
puts_texts (pair ∷ pairs) found = puts_texts pairs (put pair.name (string pair.value) found)

pub texts_plain : (n : ℕ) (pairs : List Pair) → AreTexts pairs → ArePlainMembers n (texts_members pairs)
texts_plain n [] h = tt
texts_plain n (pair ∷ pairs) h = (h.0, h.1, texts_plain n pairs h.2)

pub texts_read : (pairs : List Pair) → texts_in (texts_members pairs) ≡ Some pairs
texts_read [] = refl
texts_read (pair ∷ pairs) = ap (option_map (λ ps. pair ∷ ps)) (texts_read pairs)

-- ---- the whole

abbrev pub config_members : Members → Members
config_members texts = member (codes "config") (object texts) (member (codes "version") (whole_data (pos 1)) no_members)

config_plain : (pairs : List Pair) → IsConfiguration pairs → IsPlain 3 (object (config_members (texts_members pairs)))
config_plain pairs h = (
  (word (codes "config") refl, (texts_plain 1 pairs h.texts, puts_texts pairs no_members ∙ written_texts pairs h.rising), (word (codes "version") refl, whole_is_plain 2 (pos 1) (omega (arith, ints), omega (arith, ints)), tt)),
  refl,
)

config_says : (pairs : List Pair) → config_of (object (config_members (texts_members pairs))) ≡ Ok (body.Config pairs)
config_says pairs = rw (texts_read pairs) refl

config_object : (key : EntityKey) (pairs : List Pair) → IsConfiguration pairs → read_body key (text_of_body (body.Config pairs)) ≡ body_of key (object (config_members (texts_members pairs)))
unfolding text_of_body
config_object key pairs h =
    ap (λ ms. read_body key (compact_text (object (config_members ms)))) (written_texts pairs h.rising)
    ∙ object_says key (config_members (texts_members pairs)) (config_plain pairs h)

pub config_is_read : (key : EntityKey) (pairs : List Pair) → is_of_kind key (body.Config pairs) ≡ true → IsConfiguration pairs → read_body key (text_of_body (body.Config pairs)) ≡ Ok (body.Config pairs)
unfolding body_of is_of_kind
config_is_read (TopicConfig name) pairs kind h = config_object (TopicConfig name) pairs h ∙ config_says pairs
config_is_read (BrokerConfig broker) pairs kind h = config_object (BrokerConfig broker) pairs h ∙ config_says pairs
config_is_read (Topic name) pairs kind h = cc kind
config_is_read (Partition topic partition) pairs kind h = cc kind
config_is_read (Client client) pairs kind h = cc kind
config_is_read (User user) pairs kind h = cc kind
config_is_read (UserClient user client) pairs kind h = cc kind
config_is_read (Ip address) pairs kind h = cc kind
config_is_read (Acl pattern resource name) pairs kind h = cc kind
config_is_read Producer pairs kind h = cc kind

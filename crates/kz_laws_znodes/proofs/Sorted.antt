-- The members of what is read rise, at every depth.
use Rattle.std.proofs.Common.{ℕ, Bool, true, false, List, Option, Some, None, Ordering, Less, Equal, Greater}
use Rattle.std.specs.Ordering.{match_ordering}
use Rattle.std.specs.Prelude.{⊤, IfSome, option_map, option_and_then, if◌then◌else◌}
use Rattle.std.specs.Str.{is_utf8}
use Rattle.json.specs.Json as json
use Rattle.json.specs.Lex.{tokens}
use Rattle.serde_json.specs.Data.{Data, null, boolean, number, string, array, object, Items, no_items, item, Members, no_members, member, put}
use Rattle.serde_json.specs.Find.{get, get_member, as_object}
use Rattle.serde_json.specs.Read.{of_json, of_items, of_members, number_of, max_depth, read}
use Rattle.kz_types.specs.Order.{bytes_cmp}
use Rattle.kz_spec_data.specs.Bodies.{json_of, object_if, object_of}
use Rattle.kz_laws_values.proofs.Members.{by_order, Rise, put_rises}

abbrev mutual
  -- the members of each object in it rise
  pub IsSorted : Data → Type 0
  IsSorted null = ⊤
  IsSorted (boolean b) = ⊤
  IsSorted (number n) = ⊤
  IsSorted (string s) = ⊤
  IsSorted (array ds) = AreSorted ds
  IsSorted (object ms) = Rise ms × HaveSorted ms

  pub AreSorted : Items → Type 0
  AreSorted no_items = ⊤
  AreSorted (item d ds) = IsSorted d × AreSorted ds

  pub HaveSorted : Members → Type 0
  HaveSorted no_members = ⊤
  HaveSorted (member k d ms) = IsSorted d × HaveSorted ms

-- ---- what may be absent

pub if_mapped : {A B : Type 0} (P : A → Type 0) (Q : B → Type 0) (f : A → B) (o : Option A) → ((a : A) → P a → Q (f a)) → IfSome o P → IfSome (option_map f o) Q
if_mapped P Q f None so h = tt
if_mapped P Q f (Some a) so h = so a h

pub if_chained : {A B : Type 0} (P : A → Type 0) (Q : B → Type 0) (f : A → Option B) (o : Option A) → ((a : A) → P a → IfSome (f a) Q) → IfSome o P → IfSome (option_and_then f o) Q
if_chained P Q f None so h = tt
if_chained P Q f (Some a) so h = so a h

pub if_any : {A B : Type 0} (Q : B → Type 0) (f : A → Option B) (o : Option A) → ((a : A) → IfSome (f a) Q) → IfSome (option_and_then f o) Q
if_any Q f None so = tt
if_any Q f (Some a) so = so a

-- ---- reading

put_sorted : (k : List ℕ) (d : Data) (ms : Members) → IsSorted d → HaveSorted ms → HaveSorted (put k d ms)
put_sorted k d no_members s h = (s, tt)
put_sorted k d (member l e ms) s h =
    by_order HaveSorted k l (member k d (member l e ms)) (member l d ms) (member l e (put k d ms))
    (λ less. (s, h)) (λ same. (s, h.1)) (λ more. (h.0, put_sorted k d ms s h.1))

abbrev AreMembers : Members → Type 0
AreMembers ms = Rise ms × HaveSorted ms

pub always : {A : Type 0} (o : Option A) → IfSome o (λ a. ⊤)
always None = tt
always (Some a) = tt

mutual
  json_sorted : (j : json.Json) → IfSome (of_json j) IsSorted
  json_sorted json.null = tt
  json_sorted (json.boolean b) = tt
  json_sorted (json.number s) = if_mapped (λ n. ⊤) IsSorted number (number_of s) (λ n any. tt) (always (number_of s))
  json_sorted (json.string s) = tt
  json_sorted (json.array js) = if_mapped AreSorted IsSorted array (of_items js) (λ ds s. s) (items_sorted js)
  json_sorted (json.object ms) = if_mapped AreMembers IsSorted object (of_members ms no_members) (λ found s. s) (members_sorted ms no_members (tt, tt))

  items_sorted : (js : json.Items) → IfSome (of_items js) AreSorted
  items_sorted json.no_items = tt
  items_sorted (json.item j js) =
      if_chained IsSorted AreSorted (λ d. option_map (item d) (of_items js)) (of_json j)
      (λ d s. if_mapped AreSorted AreSorted (item d) (of_items js) (λ ds all. (s, all)) (items_sorted js)) (json_sorted j)

  members_sorted : (ms : json.Members) (found : Members) → AreMembers found → IfSome (of_members ms found) AreMembers
  members_sorted json.no_members found h = h
  members_sorted (json.member k j ms) found h =
      if_chained IsSorted AreMembers (λ d. of_members ms (put k d found)) (of_json j)
      (λ d s. members_sorted ms (put k d found) (put_rises k d found h.0, put_sorted k d found s h.1)) (json_sorted j)

read_sorted : (text : List ℕ) → IfSome (read text) IsSorted
read_sorted text = if_any IsSorted of_json (option_and_then (λ p. json.if_last p.0 p.1) (json.value max_depth (tokens text))) json_sorted

text_sorted : (bytes : List ℕ) → IfSome (json_of bytes) IsSorted
text_sorted bytes = by (is_utf8 bytes)
  where
    by : (t : Bool) → IfSome (if t then read bytes else None) IsSorted
    by true = read_sorted bytes
    by false = tt

pub object_sorted : (bytes : List ℕ) → IfSome (object_of (json_of bytes)) IsSorted
object_sorted bytes = if_chained IsSorted IsSorted (λ d. object_if d (as_object d)) (json_of bytes) one (text_sorted bytes)
  where
    one : (d : Data) → IsSorted d → IfSome (object_of (Some d)) IsSorted
    one null s = tt
    one (boolean b) s = tt
    one (number n) s = tt
    one (string t) s = tt
    one (array ds) s = tt
    one (object ms) s = s

-- ---- a member

member_sorted : (k : List ℕ) (ms : Members) → HaveSorted ms → IfSome (get_member k ms) IsSorted
member_sorted k no_members h = tt
member_sorted k (member l e ms) h = by (bytes_cmp k l) (member_sorted k ms h.1)
  where
    by : (r : Ordering) → IfSome (get_member k ms) IsSorted → IfSome (match_ordering r (get_member k ms) (Some e) (get_member k ms)) IsSorted
    by Less rest = rest
    by Equal rest = h.0
    by Greater rest = rest

pub get_sorted : (k : List ℕ) (d : Data) → IsSorted d → IfSome (get k d) IsSorted
get_sorted k null s = tt
get_sorted k (boolean b) s = tt
get_sorted k (number n) s = tt
get_sorted k (string t) s = tt
get_sorted k (array ds) s = tt
get_sorted k (object ms) s = member_sorted k ms s.1

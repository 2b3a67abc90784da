-- The entries of a resource are those whose resource has the path of its key.
use Rattle.std.proofs.Common.{◌≡◌, ℕ, ℤ, pos, Bool, true, false, cond, ◌&&◌, List, [], ◌∷◌, ◌++◌, map, All, refl, sym, ap, ◌∙◌}
use Rattle.std.specs.Ordering.{int_eq}
use Rattle.std.specs.Str.{bytes_eq}
use Rattle.std.specs.List.{filter}
use Rattle.std.proofs.lemmas.Bool.{false≢true, and_parts, and_from}
use Rattle.std.proofs.lemmas.Bool.Decides.{Decides-int_eq}
use Rattle.std.proofs.lemmas.List.Elements.{All-head, All-tail}
use Rattle.std.proofs.lemmas.Slice.Eq.{bytes_eq-Decides}
use Rattle.kz_types.specs.declared.image.AclEntry.{AclEntry}
use Rattle.kz_types.specs.declared.key.EntityKey.{EntityKey}
use Rattle.kz_types.specs.declared.key.EntityKey.TheVariants as key
use Rattle.kz_types.specs.Paths.{path_of, is_legal}
use Rattle.kz_spec_data.specs.Legal.{IsAcl}
use Rattle.kz_spec_data.specs.Rendering.{acl_key, row_of_acl}
use Rattle.kz_spec_data.specs.Entities.{rows_of_resource}
use Rattle.kz_laws_values.proofs.Keys.{one_key}
use Rattle.kz_laws_znodes.specs.Writable.{IsText, IsAclWritable}
use Rattle.kz_render.proofs.Gathered.{resource_legal}
use Rattle.kz_render.specs.Resources.{is_at, row_if_at, rows_at}

-- ---- the parts of a key

abbrev pattern_of : EntityKey → ℤ
pattern_of (key.Acl pattern kind name) = pattern
pattern_of k = pos 0

abbrev kind_of : EntityKey → ℤ
kind_of (key.Acl pattern kind name) = kind
kind_of k = pos 0

abbrev name_of : EntityKey → List ℕ
name_of (key.Acl pattern kind name) = name
name_of k = []

-- an entry whose resource has this key is one of it
at_same : (pattern kind : ℤ) (name : List ℕ) (a : AclEntry) → acl_key a.row ≡ key.Acl pattern kind name → is_at pattern kind name a.row ≡ true
at_same pattern kind name a same =
    and_from (int_eq a.row.pattern pattern) (int_eq a.row.kind kind && bytes_eq a.row.name name) ((Decides-int_eq a.row.pattern pattern).1 (ap pattern_of same))
    (and_from (int_eq a.row.kind kind) (bytes_eq a.row.name name) ((Decides-int_eq a.row.kind kind).1 (ap kind_of same)) ((bytes_eq-Decides a.row.name name).1 (ap name_of same)))

-- and the other way round
key_at : (pattern kind : ℤ) (name : List ℕ) (a : AclEntry) → is_at pattern kind name a.row ≡ true → acl_key a.row ≡ key.Acl pattern kind name
key_at pattern kind name a e =
    let p = and_parts (int_eq a.row.pattern pattern) (int_eq a.row.kind kind && bytes_eq a.row.name name) e in
    let q = and_parts (int_eq a.row.kind kind) (bytes_eq a.row.name name) p.1 in
    let one : a.row.pattern ≡ pattern = (Decides-int_eq a.row.pattern pattern).0 p.0 in
    let two : a.row.kind ≡ kind = (Decides-int_eq a.row.kind kind).0 q.0 in
    let three : a.row.name ≡ name = (bytes_eq-Decides a.row.name name).0 q.1 in
    (λ i. key.Acl (one i) (two i) (three i))

-- ---- the two tests

same_test : (pattern kind : ℤ) (name : List ℕ) (a : AclEntry) → is_legal (key.Acl pattern kind name) ≡ true → IsText name → IsAcl a → IsAclWritable a
    → bytes_eq (path_of (acl_key a.row)) (path_of (key.Acl pattern kind name)) ≡ is_at pattern kind name a.row
same_test pattern kind name a legal text h w = by (is_at pattern kind name a.row) refl
  where
    -- an entry with the path is one of the resource
    none : is_at pattern kind name a.row ≡ false → (b : Bool) → bytes_eq (path_of (acl_key a.row)) (path_of (key.Acl pattern kind name)) ≡ b → b ≡ false
    none other false e = refl
    none other true e =
        let same = one_key (acl_key a.row) (key.Acl pattern kind name) (resource_legal a h) w.name legal text ((bytes_eq-Decides (path_of (acl_key a.row)) (path_of (key.Acl pattern kind name))).0 e) in
        absurd (false≢true (sym other ∙ at_same pattern kind name a same))

    by : (b : Bool) → is_at pattern kind name a.row ≡ b → bytes_eq (path_of (acl_key a.row)) (path_of (key.Acl pattern kind name)) ≡ is_at pattern kind name a.row
    by true e = (bytes_eq-Decides (path_of (acl_key a.row)) (path_of (key.Acl pattern kind name))).1 (ap path_of (key_at pattern kind name a e)) ∙ sym e
    by false e = none e (bytes_eq (path_of (acl_key a.row)) (path_of (key.Acl pattern kind name))) refl ∙ sym e

-- ---- those of a name

-- an entry of another name is none of the resource
other_name : (a b : Bool) → a && (b && false) ≡ false
other_name true true = refl
other_name true false = refl
other_name false b = refl

-- the entries of the resource's name are enough
pub rows_named : (pattern kind : ℤ) (name : List ℕ) (acls : List AclEntry) → rows_at pattern kind name (filter (λ (a : AclEntry). bytes_eq a.row.name name) acls) ≡ rows_at pattern kind name acls
rows_named pattern kind name [] = refl
rows_named pattern kind name (a ∷ bs) = either (bytes_eq a.row.name name) refl (rows_named pattern kind name bs)
  where
    either : (b : Bool) → bytes_eq a.row.name name ≡ b → rows_at pattern kind name (filter (λ (e : AclEntry). bytes_eq e.row.name name) bs) ≡ rows_at pattern kind name bs
        → rows_at pattern kind name (cond b (a ∷ filter (λ (e : AclEntry). bytes_eq e.row.name name) bs) (filter (λ (e : AclEntry). bytes_eq e.row.name name) bs)) ≡ row_if_at pattern kind name a ++ rows_at pattern kind name bs
    either true same rest = ap (λ rows. row_if_at pattern kind name a ++ rows) rest
    either false other rest =
        rest ∙ sym (ap (λ b. cond b (a.row ∷ []) [] ++ rows_at pattern kind name bs) (ap (λ c. int_eq a.row.pattern pattern && (int_eq a.row.kind kind && c)) other ∙ other_name (int_eq a.row.pattern pattern) (int_eq a.row.kind kind)))

-- ---- all entries

one_more : (b : Bool) (a : AclEntry) (bs : List AclEntry) → cond b (a.row ∷ []) [] ++ map row_of_acl bs ≡ map row_of_acl (cond b (a ∷ bs) bs)
one_more true a bs = refl
one_more false a bs = refl

pub rows_are : (pattern kind : ℤ) (name : List ℕ) (acls : List AclEntry) → is_legal (key.Acl pattern kind name) ≡ true → IsText name → All IsAcl acls → All IsAclWritable acls
    → rows_at pattern kind name acls ≡ rows_of_resource (key.Acl pattern kind name) acls
rows_are pattern kind name [] legal text h w = refl
rows_are pattern kind name (a ∷ bs) legal text h w =
    let test : AclEntry → Bool = λ (e : AclEntry). bytes_eq (path_of (acl_key e.row)) (path_of (key.Acl pattern kind name)) in
    ap (λ rows. row_if_at pattern kind name a ++ rows) (rows_are pattern kind name bs legal text (All-tail IsAcl a bs h) (All-tail IsAclWritable a bs w))
    ∙ ap (λ b. cond b (a.row ∷ []) [] ++ map row_of_acl (filter test bs)) (sym (same_test pattern kind name a legal text (All-head IsAcl a bs h) (All-head IsAclWritable a bs w)))
    ∙ one_more (test a) a (filter test bs)

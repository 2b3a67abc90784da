-- What is known of the znodes that were read.
use Rattle.std.specs.Prelude.{◌≡◌, ⊤, ℕ, ℤ, Bool, false, List, [], Option, Some, None, take, Ok, Err, HoldsAt}
use Rattle.std.specs.Result.{result_ok}
use Rattle.std.specs.BTreeMap.{BTreeMap, get}
use Rattle.std.specs.BTreeSet.{BTreeSet, contains}
use Rattle.std.specs.Ordering.{int_cmp, nat_cmp}
use Rattle.kz_types.specs.declared.id.Id.{Id}
use Rattle.kz_types.specs.declared.tree.Row.{Row}
use Rattle.kz_types.specs.declared.bodies.Body.{Body}
use Rattle.kz_types.specs.declared.bodies.Body.TheVariants as body
use Rattle.kz_types.specs.declared.kind.Kind.{Kind}
use Rattle.kz_types.specs.declared.kind.Kind.TheVariants as kind
use Rattle.kz_types.specs.declared.fault.ReadWhy.TheVariants as why
use Rattle.kz_types.specs.Order.{bytes_cmp}
use Rattle.kz_types.specs.Paths.{key_of, path_of}
use Rattle.kz_spec_data.specs.Bodies.{read_body}
use Rattle.kz_spec_data.specs.Translation.{RowRecords, assignment_at, is_taken, entries_in, count_of_entries}
use Rattle.kz_spec_data.specs.Metadata.{same_id}
use Rattle.kz_reader.specs.declared.assignments.Assignments.{Assignments}
use Rattle.kz_reader.specs.declared.bodies.EntityRead.{EntityRead}
use Rattle.kz_reader.specs.declared.seen.Note.{Note}
use Rattle.kz_reader.specs.declared.seen.Seen.{Seen}

-- these are the assignments of their topic
abbrev pub IsOf : List Row → Assignments → Type 0
IsOf rows a = (number : ℤ) → get int_cmp a.rows number ≡ assignment_at a.topic number rows

-- where there are assignments, they are those of their topic
abbrev pub IsOfIfAny : List Row → Option Assignments → Type 0
IsOfIfAny rows None = ⊤
IsOfIfAny rows (Some a) = IsOf rows a

-- this is the entity of a znode, and what its body says
pub record IsReadOf (r : Row) (e : EntityRead) : Type 0 where
  pub key : key_of r.path ≡ Some e.key
  pub path : path_of e.key ≡ r.path
  pub read : e.read ≡ read_body e.key r.body

-- the same where the znode is an entity's
abbrev pub IsReadOfIfAny : Row → Option EntityRead → Type 0
IsReadOfIfAny r None = key_of r.path ≡ None
IsReadOfIfAny r (Some e) = IsReadOf r e

-- where anything was read, it is what the znode at this place says
abbrev pub IsReadAt : List Row → ℕ → Option EntityRead → Type 0
IsReadAt rows place None = ⊤
IsReadAt rows place (Some e) = HoldsAt (λ r. IsReadOf r e) rows place

-- at each place stands what its znode says, or nothing
abbrev pub AreReadAt : List Row → BTreeMap ℕ EntityRead → Type 0
AreReadAt rows states = (place : ℕ) → IsReadAt rows place (get nat_cmp states place)

-- the body, where there is one and it could be read
abbrev pub body_in : Option EntityRead → Option Body
body_in None = None
body_in (Some e) = result_ok e.read

-- whether an id is among these
abbrev pub is_among : BTreeSet (List ℕ) → Id → Bool
is_among ids id = contains bytes_cmp ids id.bytes

-- whether there is an id, and it is this one
abbrev pub is_this : Id → Option Id → Bool
is_this other None = false
is_this other (Some id) = same_id other id

-- the id of a topic
abbrev pub id_in : Option Body → Option Id
id_in (Some (body.Topic id partitions)) = Some id
id_in b = None

-- what a body adds to what is known
abbrev pub note_of : Option Body → Note
note_of b = record { id = id_in b; entries = entries_in b }

-- what is known is so of the first of these znodes
pub record HasSeen (rows : List Row) (seen : Seen) : Type 0 where
  pub ids : (id : Id) → is_among seen.ids id ≡ is_taken id (take seen.done rows)
  pub entries : seen.entries ≡ count_of_entries (take seen.done rows)

-- the records of a znode of this kind that is no entity's
abbrev pub records_without_key : Kind → RowRecords
records_without_key kind.Stray = Err why.Stray
records_without_key k = Ok []

-- What the code answers to cases, as JSON values.
use Rattle.std.specs.Prelude.{◌≡◌, ℕ, Bool, false, pos, List, [], ◌∷◌, Option, Some, None, option_map, option_and_then, Result, Ok, Err, codes}
use Rattle.std.specs.Str.{bytes_eq}
use Rattle.std.specs.List.{list_any}
use Rattle.serde_json.specs.Data.{Data, Members, object}
use Rattle.kz_types.specs.Paths.{part_for_name, name_of_part}
use Rattle.kz_types.specs.Ids.{id_of}
use Rattle.kz_types.specs.declared.row.QuotaValue.{QuotaValue}
use Rattle.kz_types.specs.declared.value_fault.QuotaFault.{QuotaFault}
use Rattle.kz_types.specs.declared.value_fault.QuotaFault.TheVariants.{NotNumber, TooFine, TooLarge}
use Rattle.kz_spec_data.specs.Quotas.{quota_of, quota_text}
use Rattle.kz_spec_data.specs.Json.{text_member, by_name}
use Rattle.kz_spec_data.specs.Members.{with_text, with_whole, with_text_or_null}
use Rattle.kz_case_fields.specs.Texts.{hex, given, text_of}

-- ---- answers

-- the part of a path that a name is written as
abbrev pub sanitise_answer : Data → Option Data
sanitise_answer case =
    option_and_then (λ name. option_map (λ part. object (with_text (codes "part") part (given (codes "sanitise") (codes "name") name))) (text_of (part_for_name name)))
    (text_member (codes "name") case)

-- the name that is written as a part, or null
abbrev pub restore_answer : Data → Option Data
restore_answer case =
    option_map (λ part. object (with_text_or_null (codes "name") (name_of_part part) (given (codes "restore") (codes "part") part)))
    (text_member (codes "part") case)

-- the bytes of the id that a text is, or null
abbrev pub id_answer : Data → Option Data
id_answer case =
    option_map (λ text. object (with_text_or_null (codes "hex") (option_map hex (id_of text)) (given (codes "id") (codes "text") text)))
    (text_member (codes "text") case)

-- the quota that a text is, or the fault
abbrev pub quota_members : Result QuotaValue QuotaFault → Members → Members
quota_members (Ok quota) ms = with_text (codes "written") (quota_text quota) (with_whole (codes "micros") quota.micros (with_whole (codes "whole") quota.whole ms))
quota_members (Err (NotNumber at)) ms = with_whole (codes "at") (pos at) (with_text (codes "fault") (codes "NotNumber") ms)
quota_members (Err TooFine) ms = with_text (codes "fault") (codes "TooFine") ms
quota_members (Err TooLarge) ms = with_text (codes "fault") (codes "TooLarge") ms

abbrev pub quota_answer : Data → Option Data
quota_answer case =
    option_map (λ text. object (quota_members (quota_of text) (given (codes "quota") (codes "text") text)))
    (text_member (codes "text") case)

-- ---- cases

-- the calls whose answers these definitions say
unfoldable pub name_forms : List (List ℕ × (Data → Option Data))
name_forms =
    (codes "sanitise", sanitise_answer) ∷ (codes "restore", restore_answer) ∷ (codes "id", id_answer) ∷ (codes "quota", quota_answer) ∷ []

-- the calls that read bytes: of their answers these definitions say nothing
abbrev pub is_reading : List ℕ → Bool
is_reading call = list_any (bytes_eq call) (codes "read_value" ∷ codes "read_batch" ∷ codes "path" ∷ codes "body" ∷ [])

abbrev pub IsAnswerTo : Option (List ℕ) → Data → Option Data → Type 0
IsAnswerTo None case answer = answer ≡ None
IsAnswerTo (Some call) case answer = is_reading call ≡ false → answer ≡ by_name name_forms call case

-- What the code may answer to a case: to a value without a call, or with another one, nothing.
abbrev pub IsAnswer : Data → Option Data → Type 0
IsAnswer case answer = IsAnswerTo (text_member (codes "call") case) case answer

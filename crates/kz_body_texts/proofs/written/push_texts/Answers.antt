use Rattle.std.proofs.Common.{◌∙◌, ap, refl}
use Rattle.serde_json.specs.Data.{no_members}
use Rattle.serde_json.specs.Written.{members_have_float}
use Rattle.kz_body_texts.proofs.WrittenLemmas.{texts_no_float}
use Rattle.kz_body_texts.proofs.written.push_texts.Goals as goal

pub push_object-requires : goal.push_object-requires
push_object-requires c = ap members_have_float c.in_ok-members.ensures ∙ texts_no_float no_members c.args.pairs.now refl

-- What a look at a JSON value says of the members that it has.
use Rattle.std.proofs.Common.{◌≡◌, List, length, Some, sym, ◌∙◌}
use Rattle.serde_json.specs.Data.{Data, null, boolean, number, string, array, object, Members}
use Rattle.serde_json.specs.Find.{as_object}
use Rattle.serde_json.specs.Events.{members_len}
use Rattle.serde_json.specs.View.{members_view}
use Rattle.serde_json.proofs.Views.{Entry, members_len-members_view}
use Rattle.kz_spec_data.specs.Json.{member_count}

count_is : (d : Data) (ms : Members) → Some ms ≡ as_object d → members_len ms ≡ member_count d
count_is null ms e = cc
count_is (boolean b) ms e = cc
count_is (number n) ms e = cc
count_is (string s) ms e = cc
count_is (array ds) ms e = cc
count_is (object ms') ms e = cc

pub count_of_members : (d : Data) (es : List Entry) → Some (members_view es) ≡ as_object d → length es ≡ member_count d
count_of_members d es e = sym (members_len-members_view es) ∙ count_is d (members_view es) e

-- What a change of a topic makes of the topics.
use Rattle.std.proofs.Common.{◌≡◌, Option, Some, List, sym, ap, ◌∙◌}
use Rattle.kz_types.specs.declared.image.TopicEntry.{TopicEntry}
use Rattle.kz_spec_data.specs.Image.{with_changed, put_topic}

-- a changed topic is put in the place of the one that was found
pub put_changed : (change : TopicEntry → TopicEntry) (found : Option TopicEntry) (old new : TopicEntry) (xs : List TopicEntry) → found ≡ Some old → new ≡ change old → put_topic new xs ≡ with_changed change found xs
put_changed change found old new xs is made = ap (λ t. put_topic t xs) made ∙ ap (λ f. with_changed change f xs) (sym is)

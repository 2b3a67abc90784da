-- What is known after one znode more.
use Rattle.std.proofs.Common.{◌≡◌, ℕ, ◌+◌, ◌<◌, ◌||◌, List, [], ◌∷◌, ◌++◌, length, take, get_or, Option, Some, None, refl, sym, ap, ◌∙◌, arith}
use Rattle.std.proofs.Math.Bool.{or-false}
use Rattle.std.proofs.lemmas.List.{take_more}
use Rattle.std.proofs.lemmas.List.Folds.{list_any-append}
use Rattle.std.proofs.lemmas.List.Sums.{sum_by-append}
use Rattle.kz_types.specs.declared.id.Id.{Id}
use Rattle.kz_types.specs.declared.tree.Row.{Row}
use Rattle.kz_types.specs.declared.bodies.Body.{Body}
use Rattle.kz_types.specs.declared.bodies.Body.TheVariants as body
use Rattle.kz_spec_data.specs.Translation.{body_of_row, is_topic_with, is_taken, entries_in, count_of_entries}
use Rattle.kz_reader.specs.declared.seen.Note.{Note}
use Rattle.kz_reader.specs.declared.seen.Seen.{Seen}
use Rattle.kz_reader.specs.Seen.{is_among, is_this, id_in, note_of, HasSeen}

is_its_id : (id : Id) (b : Option Body) → is_topic_with id b ≡ is_this id (id_in b)
is_its_id id None = refl
is_its_id id (Some (body.Topic other partitions)) = refl
is_its_id id (Some (body.State leader leader_epoch controller_epoch isr recovery)) = refl
is_its_id id (Some (body.Config pairs)) = refl
is_its_id id (Some (body.Quota quotas scrams)) = refl
is_its_id id (Some (body.Acls rows)) = refl
is_its_id id (Some (body.Producer broker start end)) = refl
is_its_id id (Some body.Blank) = refl

first_rows : (rows : List Row) (done : ℕ) (row : Row) → done < length rows → row ≡ get_or rows done row → take (done + 1) rows ≡ take done rows ++ row ∷ []
first_rows rows done row h e = take_more rows done row h ∙ ap (λ r. take done rows ++ r ∷ []) (sym e)

pub one_more_seen : (rows : List Row) (row : Row) (note : Note) (old new : Seen) → old.done < length rows → row ≡ get_or rows old.done row → note ≡ note_of (body_of_row row) → HasSeen rows old
    → new.done ≡ old.done + 1 → new.entries ≡ old.entries + note.entries → ((id : Id) → is_among new.ids id ≡ (is_among old.ids id || is_this id note.id)) → HasSeen rows new
one_more_seen rows row note old new h e n seen done entries ids =
    let firsts : take new.done rows ≡ take old.done rows ++ row ∷ [] = ap (λ n. take n rows) done ∙ first_rows rows old.done row h e in
    record {
      ids = λ id. ids id ∙ ap (λ b. b || is_this id note.id) (seen.ids id) ∙ ap (λ (m : Note). is_taken id (take old.done rows) || is_this id m.id) n
          ∙ ap (λ b. is_taken id (take old.done rows) || b) (sym (or-false (is_topic_with id (body_of_row row)) ∙ is_its_id id (body_of_row row)))
          ∙ sym (ap (λ rs. is_taken id rs) firsts ∙ list_any-append (λ (r : Row). is_topic_with id (body_of_row r)) (take old.done rows) (row ∷ []));
      entries = entries ∙ ap (λ k. k + note.entries) seen.entries ∙ ap (λ (m : Note). count_of_entries (take old.done rows) + m.entries) n
          ∙ ap (λ k. count_of_entries (take old.done rows) + k) (last_sum (entries_in (body_of_row row)))
          ∙ sym (ap (λ rs. count_of_entries rs) firsts ∙ sum_by-append (λ (r : Row). entries_in (body_of_row r)) (take old.done rows) (row ∷ []));
    }
  where
    last_sum : (k : ℕ) → k ≡ 0 + k
    last_sum k = omega arith

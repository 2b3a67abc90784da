-- A snapshot cuts the log, and keeps its shape.
use Rattle.std.proofs.Common.{◌≡◌, ◌⊎◌, inl, inr, ℕ, suc, ◌<◌, ℤ, pos, negsuc, ◌+ℤ◌, ◌≤ℤ◌, int_le, int_lt, Bool, true, false, List, [], ◌∷◌, ◌++◌, map, filter, Option, Some, None, refl, sym, ap, ◌∙◌, subst, arith, append_assoc}
use Rattle.std.specs.Prelude.{◌<ℤ◌}
use Rattle.std.specs.List.{Contains}
use Rattle.std.proofs.lemmas.Int.{ints}
use Rattle.std.proofs.lemmas.List.{map-append}
use Rattle.kz_types.specs.declared.log.BatchRow.{BatchRow}
use Rattle.kz_types.specs.declared.log.Entry.{Entry}
use Rattle.kz_spec_data.specs.Settlement.{ends_migration, open_begin, records_of_open}
use Rattle.kz_spec_data.specs.Metadata.{Image, empty_image}
use Rattle.kz_spec_data.specs.Log.{Log, View, IsAt, IsViewOf, IsLog, Follow, EpochsNeverFall, last_of, last_end, end_of, batch_ends, begins_after, entries, entries_by, image_at, snapshot}
use Rattle.kz_spec_machine.specs.Sound.{LogShape, IsBatchEnd, IsPastCommit}
use Rattle.kz_laws_machine.proofs.Ends.{least_end, base_is_batch_end, empty_before, last_is}
use Rattle.kz_laws_machine.proofs.WriteImages.{log_in_order}
use Rattle.kz_laws_machine.specs.Snapshots.{MayBeBase, IsCut}
use Rattle.kz_laws_machine.proofs.Divided.{Divided, divided, later_follows, later_is, entries_are, earlier_up_to, later_after}
use Rattle.kz_laws_machine.proofs.SnapshotImages.{image_stays, open_stays, begun_stays, kept_stays, end_stays}
use Rattle.kz_laws_machine.proofs.SnapshotCommits.{ends_in_whole}

last_end_append : (from : ℤ) (xs ys : List BatchRow) → last_end from (xs ++ ys) ≡ last_end (last_end from xs) ys
last_end_append from [] ys = refl
last_end_append from (x ∷ xs) ys = last_end_append (last_of x) xs ys

epochs_later : (least most : ℤ) (xs ys : List BatchRow) → pos 1 ≤ℤ least → EpochsNeverFall least most (xs ++ ys) → EpochsNeverFall (pos 1) most ys
epochs_later least most [] [] low h = tt
epochs_later least most [] (y ∷ ys) low h = (at_least (pos 1) least y.epoch low h.0, h.1, h.2)
  where
    at_least : (a b c : ℤ) → a ≤ℤ b → b ≤ℤ c → a ≤ℤ c
    at_least a b c x y = omega (arith, ints, x, y)
epochs_later least most (x ∷ xs) ys low h = epochs_later x.epoch most xs ys (at_least (pos 1) least x.epoch low h.0) h.2
  where
    at_least : (a b c : ℤ) → a ≤ℤ b → b ≤ℤ c → a ≤ℤ c
    at_least a b c x y = omega (arith, ints, x, y)

contains_later : (p q : List Entry) (e : Entry) → Contains q e → Contains (p ++ q) e
contains_later [] q e has = has
contains_later (x ∷ p) q e has = let rest = contains_later p q e has in (suc rest.0, omega (arith, rest.1), rest.2)

both_numbers : (a b : ℤ) → a ≤ℤ b → b ≤ℤ a → a ≡ b
both_numbers a b x y = omega (arith, ints, x, y)

below_or_from : (a b : ℤ) → (a <ℤ b) ⊎ (b ≤ℤ a)
below_or_from a b = by (int_lt a b) refl
  where
    less : int_lt a b ≡ true → a <ℤ b
    less is = grind (arith, ints)

    from : int_lt a b ≡ false → b ≤ℤ a
    from is = grind (arith, ints)

    by : (t : Bool) → int_lt a b ≡ t → (a <ℤ b) ⊎ (b ≤ℤ a)
    by true is = inl (less is)
    by false is = inr (from is)

module _ (l : Log) (at : ℤ) (log : IsLog l) (may : MayBeBase l at) where
  abbrev d : Divided l.base at l.batches
  d = divided l at may.end

  pub end_is : end_of (snapshot l at) ≡ end_of l
  end_is =
      ap (last_end at) (later_is l at log d) ∙ ap (λ (o : ℤ). last_end o d.later) d.at_is ∙ sym (last_end_append l.base d.earlier d.later) ∙ ap (last_end l.base) (sym d.whole)

  pub empty_there : at ≡ negsuc 0 → image_at l at ≡ empty_image
  empty_there first =
      let base_first : l.base ≡ negsuc 0 = both_numbers l.base (negsuc 0) (subst (λ (o : ℤ). l.base ≤ℤ o) first (least_end l at log may.end)) log.base in
      ap (image_at l) first ∙ empty_before l log base_first

  pub based_is_log : (i : Image) → (at ≡ negsuc 0 → i ≡ empty_image) → IsLog (record l { base = at; base_image = i; batches = filter (begins_after at) l.batches })
  based_is_log i empty = record {
    epoch = log.epoch;
    base = most (negsuc 0) l.base at log.base (least_end l at log may.end);
    base_image = empty;
    follow = subst (Follow at) (sym (later_is l at log d)) (later_follows l at log d);
    epochs = subst (EpochsNeverFall (pos 1) l.epoch) (sym (later_is l at log d)) (epochs_later (pos 1) l.epoch d.earlier d.later (itself (pos 1)) (subst (EpochsNeverFall (pos 1) l.epoch) d.whole log.epochs));
    end = subst (λ (o : ℤ). o ≤ℤ pos 9223372036854775807) (sym end_is) log.end;
  }
    where
      most : (a b c : ℤ) → a ≤ℤ b → b ≤ℤ c → a ≤ℤ c
      most a b c x y = omega (arith, ints, x, y)

      itself : (a : ℤ) → a ≤ℤ a
      itself a = omega (arith, ints)

  pub log_stays : IsLog (snapshot l at)
  log_stays = based_is_log (image_at l at) empty_there

  was_end : (k : ℤ) → IsBatchEnd (snapshot l at) k → IsBatchEnd l k
  was_end k e =
      let first = last_is l.base d.earlier in
      let rest : at ∷ map last_of d.later ≡ e.before ++ k ∷ e.after = ap (λ (bs : List BatchRow). at ∷ map last_of bs) (sym (later_is l at log d)) ∙ e.among in
      record {
        before = first.front ++ e.before;
        after = e.after;
        among = ap (λ (bs : List BatchRow). l.base ∷ map last_of bs) d.whole
            ∙ ap (λ (ends : List ℤ). l.base ∷ ends) (map-append last_of d.earlier d.later)
            ∙ ap (λ (ends : List ℤ). ends ++ map last_of d.later) first.whole
            ∙ append_assoc first.front (last_end l.base d.earlier ∷ []) (map last_of d.later)
            ∙ ap (λ (o : ℤ). first.front ++ o ∷ map last_of d.later) (sym d.at_is)
            ∙ ap (λ (ends : List ℤ). first.front ++ ends) rest
            ∙ sym (append_assoc first.front e.before (k ∷ e.after));
      }

  pub view_stays : (v : View) → IsViewOf l v → IsViewOf (snapshot l at) v
  view_stays v (inl below) = inl (less v.position l.base at below (least_end l at log may.end))
    where
      less : (a b c : ℤ) → a <ℤ b → b ≤ℤ c → a <ℤ c
      less a b c x y = omega (arith, ints, x, y)
  view_stays v (inr is) = by (below_or_from v.position at)
    where
      by : (v.position <ℤ at) ⊎ (at ≤ℤ v.position) → IsViewOf (snapshot l at) v
      by (inl below) = inl below
      by (inr from) =
          let e : IsBatchEnd l v.position = record { before = is.end.0; after = is.end.1; among = is.end.2 } in
          let stays = end_stays l at v.position log may e from in
          inr (record {
            end = (stays.before, stays.after, stays.among);
            image = is.image ∙ sym (image_stays l at v.position log may e from);
            begun = is.begun ∙ sym (begun_stays l at v.position log may e from);
            kept = is.kept ∙ sym (kept_stays l at v.position log may e from);
          })

  past_stays : (k : ℤ) → IsPastCommit l k → IsPastCommit (snapshot l at) k
  past_stays k past e has ends =
      let later = later_is l at log d in
      let p = entries d.earlier in
      let q = entries d.later in
      let has_later : Contains q e = subst (λ (bs : List BatchRow). Contains (entries bs) e) later has in
      let ends_later : ends_migration q e ≡ true = subst (λ (bs : List BatchRow). ends_migration (entries bs) e ≡ true) later ends in
      let all = entries_are l at log d in
      past e (subst (λ (es : List Entry). Contains es e) (sym all) (contains_later p q e has_later))
      (subst (λ (es : List Entry). ends_migration es e ≡ true) (sym all) (ends_in_whole at p q e (earlier_up_to l at log d) (later_after l at log d) ends_later))

module _ (l : Log) (at : ℤ) (shape : LogShape l) (may : MayBeBase l at) where
  pub keeps_shape : LogShape (snapshot l at)
  keeps_shape = record {
    log = log_stays l at shape.log may;
    epoch = shape.epoch;
    image = log_in_order l at shape;
  }

  pub cuts : IsCut l (snapshot l at) at
  cuts = record {
    epoch = refl;
    end = end_is l at shape.log may;
    base_end = base_is_batch_end (snapshot l at);
    batch_end = λ k e order. end_stays l at k shape.log may e order;
    was_end = λ k e. (was_end l at shape.log may k e, least_end (snapshot l at) k (log_stays l at shape.log may) e);
    image = λ k e order. image_stays l at k shape.log may e order;
    is_open_there = λ k e order. open_stays l at k shape.log may e order;
    view = view_stays l at shape.log may;
    past = past_stays l at shape.log may;
  }

-- Which operations leave base znodes standing.
use Rattle.std.proofs.Common.{◌≡◌, ◌≢◌, ℕ, suc, ℤ, pos, ◌+ℤ◌, Bool, true, false, List, [], ◌∷◌, ◌++◌, length, map, Option, None, is_some, All, refl, sym, ap, ◌∙◌, subst, arith}
use Rattle.std.specs.Prelude.{Ok, ⊤}
use Rattle.std.specs.Str.{bytes_eq}
use Rattle.std.proofs.lemmas.List.Elements.{All-nil, All-cons, All-head, All-tail, All-from_recursion}
use Rattle.kz_types.specs.declared.tree.Row.{Row}
use Rattle.kz_types.specs.declared.tree.Op.TheVariants.{Create}
use Rattle.kz_types.specs.declared.driver.ClaimSeen.{ClaimSeen}
use Rattle.kz_types.specs.declared.machine.Recorded.{Recorded}
use Rattle.kz_types.specs.Paths.{base_paths, is_among, is_migrated}
use Rattle.kz_spec_data.specs.Control.{migration_path, written_control, written_recorded}
use Rattle.kz_spec_data.specs.Tree.{Tree, row_at, look, after_op, multi, area}
use Rattle.kz_spec_data.specs.Image.{Image}
use Rattle.kz_spec_data.specs.Rendering.{render}
use Rattle.kz_spec_data.specs.Difference.{diff, chunk}
use Rattle.kz_spec_machine.specs.Driver.{Driver, epoch_or_zero, views_migrated, seen_in, epoch_op, control_ops, record_before_offsets, migration_ops, base_op, base_ops, claim_ops, is_last_write, record_ops, write_ops}
use Rattle.kz_spec_machine.specs.Sound.{HasBases, StillStands, SeenStand}
use Rattle.kz_laws_machine.proofs.Rows.{created_found}
use Rattle.kz_laws_machine.proofs.Runs.{ran, ran_append, Avoids, avoids_append, ran_keeps}
use Rattle.kz_laws_machine.proofs.Multi.{multi_ran, differ, chunk_avoids}
use Rattle.kz_laws_machine.proofs.Parents.{Is, some_alike, there_kept}
use Rattle.kz_laws_machine.proofs.Ready.{among_all, base_outside}
use Rattle.kz_laws_bounds.proofs.Looked.{Spared, spared, spared_alike}

-- ---- paths of base znodes

-- none of the control znodes
bases_spared : All Spared base_paths
unfolding base_paths
bases_spared = All-from_recursion Spared base_paths (
  spared _ refl refl refl,
  (spared _ refl refl refl, (spared _ refl refl refl, (spared _ refl refl refl, (spared _ refl refl refl, tt)))),
)

bases_among : All (λ (p : List ℕ). is_among base_paths p ≡ true) base_paths
unfolding base_paths
bases_among = All-from_recursion (λ (p : List ℕ). is_among base_paths p ≡ true) base_paths (refl, (refl, (refl, (refl, (refl, tt)))))

base_spared : (p : List ℕ) → is_among base_paths p ≡ true → Spared p
base_spared p is = among_all Spared base_paths p is bases_spared

-- each base znode that is there stays
abbrev pub KeepsBases : Tree → Tree → Type 0
KeepsBases t new = (p : List ℕ) → is_among base_paths p ≡ true → is_some (row_at p t.rows) ≡ true → is_some (row_at p new.rows) ≡ true

pub each_base : (t new : Tree) → KeepsBases t new → HasBases t → HasBases new
each_base t new kept bases k d within = kept _ (bases_among k d within) (bases k d within)

seen_by : (t new : Tree) (bs : List Bool) (ps : List (List ℕ)) → KeepsBases t new → All (λ (p : List ℕ). is_among base_paths p ≡ true) ps → SeenStand t bs ps → SeenStand new bs ps
seen_by t new [] ps kept among stand = tt
seen_by t new (b ∷ bs) [] kept among stand = tt
seen_by t new (b ∷ bs) (p ∷ ps) kept among stand = (
  one b (kept p (All-head (λ (q : List ℕ). is_among base_paths q ≡ true) p ps among)) stand.0,
  seen_by t new bs ps kept (All-tail (λ (q : List ℕ). is_among base_paths q ≡ true) p ps among) stand.1,
)
  where
    one : (c : Bool) → (is_some (row_at p t.rows) ≡ true → is_some (row_at p new.rows) ≡ true) → StillStands t c p → StillStands new c p
    one true so is = so is
    one false so is = tt

-- and each that was seen
pub each_seen : (t new : Tree) (bs : List Bool) → KeepsBases t new → SeenStand t bs base_paths → SeenStand new bs base_paths
each_seen t new bs kept stand = seen_by t new bs base_paths kept bases_among stand

-- what a look sees stands
stands_by : (b : Bool) (t : Tree) (p : List ℕ) → is_some (row_at p t.rows) ≡ b → StillStands t b p
stands_by true t p is = is
stands_by false t p is = tt

seen_stand : (t : Tree) (ps : List (List ℕ)) → SeenStand t (map is_some (look t ps)) ps
seen_stand t [] = tt
seen_stand t (p ∷ ps) = (stands_by (is_some (row_at p t.rows)) t p refl, seen_stand t ps)

pub look_stands : (t : Tree) → SeenStand t (seen_in t).bases base_paths
look_stands t = seen_stand t base_paths

-- ---- a write

record_avoids : (p : List ℕ) (b : Bool) (target : Recorded) → p ≢ migration_path → Avoids p (record_ops b target)
record_avoids p true target other = (other, tt)
record_avoids p false target other = tt

write_avoids : (t : Tree) (i : Image) (claim : ℤ) (target : Recorded) (p : List ℕ) → Spared p → is_migrated p ≡ false → Avoids p (write_ops claim (diff (area t) (render i)) target)
write_avoids t i claim target p s outside =
    let ops = diff (area t) (render i) in
    (s.epoch, avoids_append p (chunk ops) (record_ops (is_last_write ops) target) (chunk_avoids t i p outside) (record_avoids p (is_last_write ops) target s.migration))

pub write_keeps_there : (t new : Tree) (i : Image) (claim : ℤ) (target : Recorded) → multi t (write_ops claim (diff (area t) (render i)) target) ≡ Ok new
    → KeepsBases t new
write_keeps_there t new i claim target is p among there =
    let ops = write_ops claim (diff (area t) (render i)) target in
    let zxid = t.zxid +ℤ pos 1 in
    ap (λ (rows : List Row). is_some (row_at p rows)) (multi_ran t new ops is).rows
    ∙ some_alike (row_at p (ran zxid ops t.rows)) (row_at p t.rows) (ran_keeps zxid p ops t.rows (write_avoids t i claim target p (base_spared p among) (base_outside p among))) ∙ there

-- ---- the base znodes of a claim

abbrev Stand : List Row → List Bool → List (List ℕ) → Type 0
Stand rows [] ps = ⊤
Stand rows (b ∷ bs) [] = ⊤
Stand rows (b ∷ bs) (p ∷ ps) = (b ≡ true → Is p rows) × Stand rows bs ps

abbrev AllThere : List Row → List (List ℕ) → Type 0
AllThere rows [] = ⊤
AllThere rows (p ∷ ps) = Is p rows × AllThere rows ps

-- a create leaves what is there
create_keeps : (zxid : ℤ) (q p : List ℕ) (rows : List Row) → bytes_eq p q ≡ false → Is p rows → Is p (after_op zxid (Create q [] None) rows)
create_keeps zxid q p rows other there = there_kept zxid (Create q [] None) p rows (differ p q other) ∙ there

one_base_keeps : (zxid : ℤ) (b c : Bool) (q p : List ℕ) (rows : List Row) → bytes_eq p q ≡ c → Is p rows → Is p (ran zxid (base_op b q) rows)
one_base_keeps zxid true c q p rows is there = there
one_base_keeps zxid false false q p rows is there = create_keeps zxid q p rows is there
one_base_keeps zxid false true q p rows is there =
    ap (λ (x : List ℕ). is_some (row_at x (after_op zxid (Create q [] None) rows))) ((Rattle.std.proofs.lemmas.Slice.Eq.bytes_eq-Decides p q).0 is) ∙ ap is_some (created_found zxid q [] None rows)

bases_keep : (zxid : ℤ) (bs : List Bool) (qs : List (List ℕ)) (p : List ℕ) (rows : List Row) → Is p rows → Is p (ran zxid (base_ops bs qs) rows)
bases_keep zxid [] qs p rows there = there
bases_keep zxid (b ∷ bs) [] p rows there = there
bases_keep zxid (b ∷ bs) (q ∷ qs) p rows there =
    ap (λ (x : List Row). is_some (row_at p x)) (ran_append zxid (base_op b q) (base_ops bs qs) rows)
    ∙ bases_keep zxid bs qs p (ran zxid (base_op b q) rows) (one_base_keeps zxid b (bytes_eq p q) q p rows refl there)

one_made : (zxid : ℤ) (b : Bool) (p : List ℕ) (rows : List Row) → (b ≡ true → Is p rows) → Is p (ran zxid (base_op b p) rows)
one_made zxid true p rows there = there refl
one_made zxid false p rows there = ap is_some (created_found zxid p [] None rows)

stand_later : (zxid : ℤ) (b : Bool) (q : List ℕ) (rows : List Row) (bs : List Bool) (ps : List (List ℕ)) → Stand rows bs ps → Stand (ran zxid (base_op b q) rows) bs ps
stand_later zxid b q rows [] ps stand = tt
stand_later zxid b q rows (c ∷ bs) [] stand = tt
stand_later zxid b q rows (c ∷ bs) (p ∷ ps) stand = (λ seen. one_base_keeps zxid b (bytes_eq p q) q p rows refl (stand.0 seen), stand_later zxid b q rows bs ps stand.1)

there_by : (zxid : ℤ) (xs rows : List Row) (ps : List (List ℕ)) → xs ≡ rows → AllThere rows ps → AllThere xs ps
there_by zxid xs rows ps is all = subst (λ (x : List Row). AllThere x ps) (sym is) all

fewer : (n m : ℕ) → suc n ≡ suc m → n ≡ m
fewer n m is = omega (arith, is)

bases_made : (zxid : ℤ) (bs : List Bool) (ps : List (List ℕ)) (rows : List Row) → length bs ≡ length ps → Stand rows bs ps → AllThere (ran zxid (base_ops bs ps) rows) ps
bases_made zxid [] [] rows same stand = tt
bases_made zxid [] (p ∷ ps) rows same stand = absurd (cc)
bases_made zxid (b ∷ bs) [] rows same stand = absurd (cc)
bases_made zxid (b ∷ bs) (p ∷ ps) rows same stand =
    let next : List Row = ran zxid (base_op b p) rows in
    there_by zxid (ran zxid (base_op b p ++ base_ops bs ps) rows) (ran zxid (base_ops bs ps) next) (p ∷ ps) (ran_append zxid (base_op b p) (base_ops bs ps) rows)
    (bases_keep zxid bs ps p next (one_made zxid b p rows stand.0), bases_made zxid bs ps next (fewer (length bs) (length ps) same) (stand_later zxid b p rows bs ps stand.1))

all_there : (rows : List Row) (ps : List (List ℕ)) → AllThere rows ps → All (λ (p : List ℕ). is_some (row_at p rows) ≡ true) ps
all_there rows [] all = All-nil (λ (p : List ℕ). is_some (row_at p rows) ≡ true)
all_there rows (p ∷ ps) all = All-cons (λ (q : List ℕ). is_some (row_at q rows) ≡ true) p ps all.0 (all_there rows ps all.1)

-- ---- a claim

stood : (zxid : ℤ) (t : Tree) (e c m : Option Row) (b : Bool) (body recorded : List ℕ) (bs : List Bool) (ps : List (List ℕ)) → All Spared ps → SeenStand t bs ps
    → Stand (ran zxid (migration_ops b m recorded) (ran zxid (control_ops c body) (after_op zxid (epoch_op e) t.rows))) bs ps
stood zxid t e c m b body recorded [] ps apart stand = tt
stood zxid t e c m b body recorded (x ∷ bs) [] apart stand = tt
stood zxid t e c m b body recorded (x ∷ bs) (p ∷ ps) apart stand = (
  λ seen. spared_alike zxid e c m b body recorded p t.rows (All-head Spared p ps apart) ∙ subst (λ (y : Bool). StillStands t y p) seen stand.0,
  stood zxid t e c m b body recorded bs ps (All-tail Spared p ps apart) stand.1,
)

pub claim_bases : (t new : Tree) (seen : ClaimSeen) (d : Driver) (now : ℤ) → multi t (claim_ops seen d now) ≡ Ok new → length seen.bases ≡ length base_paths → SeenStand t seen.bases base_paths → HasBases new
claim_bases t new seen d now is same stand =
    let zxid = t.zxid +ℤ pos 1 in
    let body = written_control d.id (epoch_or_zero d.epoch) now in
    let recorded = written_recorded (record_before_offsets d) in
    let controls = control_ops seen.control body in
    let recording = migration_ops (views_migrated d) seen.migration recorded in
    let bases = base_ops seen.bases base_paths in
    let first : List Row = after_op zxid (epoch_op seen.epoch) t.rows in
    let third : List Row = ran zxid recording (ran zxid controls first) in
    let rows : new.rows ≡ ran zxid bases third = (multi_ran t new (claim_ops seen d now) is).rows ∙ ran_append zxid controls (recording ++ bases) first ∙ ran_append zxid recording bases (ran zxid controls first) in
    all_there new.rows base_paths (there_by zxid new.rows (ran zxid bases third) base_paths rows
    (bases_made zxid seen.bases base_paths third same (stood zxid t seen.epoch seen.control seen.migration (views_migrated d) body recorded seen.bases base_paths bases_spared stand)))

-- a base znode that is there stays
pub claim_keeps_there : (t new : Tree) (seen : ClaimSeen) (d : Driver) (now : ℤ) → multi t (claim_ops seen d now) ≡ Ok new → KeepsBases t new
claim_keeps_there t new seen d now is p among there =
    let zxid = t.zxid +ℤ pos 1 in
    let body = written_control d.id (epoch_or_zero d.epoch) now in
    let recorded = written_recorded (record_before_offsets d) in
    let controls = control_ops seen.control body in
    let recording = migration_ops (views_migrated d) seen.migration recorded in
    let bases = base_ops seen.bases base_paths in
    let first : List Row = after_op zxid (epoch_op seen.epoch) t.rows in
    let third : List Row = ran zxid recording (ran zxid controls first) in
    let rows : new.rows ≡ ran zxid bases third = (multi_ran t new (claim_ops seen d now) is).rows ∙ ran_append zxid controls (recording ++ bases) first ∙ ran_append zxid recording bases (ran zxid controls first) in
    ap (λ (x : List Row). is_some (row_at p x)) rows
    ∙ bases_keep zxid seen.bases base_paths p third (spared_alike zxid seen.epoch seen.control seen.migration (views_migrated d) body recorded p t.rows (base_spared p among) ∙ there)

use Rattle.std.proofs.Common.{◌≡◌, ◌<◌, ◌≤◌, ℕ, nat_lt, Bool, true, false, List, [], ◌∷◌, ◌++◌, length, refl, sym, ap, ◌∙◌, arith, append_assoc, length-append, w64, to_z, of_z}
use Rattle.std.proofs.lemmas.Int.{to_z-of_z}
use Rattle.std.proofs.lemmas.Bool.Decides.{nat_tests}
use Rattle.kz_types.specs.declared.machine.Reply.{Reply}
use Rattle.kz_types.specs.declared.machine.Reply.TheVariants as reply
use Rattle.kz_driver.specs.Disks.{payloads_of}
use Rattle.kz_world_parts.specs.Starts.{most_from}
use Rattle.kz_world_parts.proofs.Turns.{moment_over, further, keeps_views, memory_ends, last_ends, all_made, told_as}
use Rattle.kz_world_parts.proofs.steps.turn.Goals as goal

same_kept : (items made : List Reply) (more : List Reply) → items ≡ made ++ reply.NoMemory ∷ [] → more ≡ items → more ≡ made ++ reply.NoMemory ∷ []
same_kept items made more kept same = same ∙ kept

-- a place more
two_kept : (items made : List Reply) (more : List Reply) → items ≡ made ++ reply.NoMemory ∷ [] → more ≡ items ++ reply.NoMemory ∷ [] → more ≡ made ++ reply.NoMemory ∷ reply.NoMemory ∷ []
two_kept items made more kept pushed = pushed ∙ ap (λ xs. xs ++ reply.NoMemory ∷ []) kept ∙ append_assoc made (reply.NoMemory ∷ []) (reply.NoMemory ∷ [])

-- a reply more
one_kept : (made : List Reply) (told : Reply) (items : List Reply) → items ≡ made ++ told ∷ reply.NoMemory ∷ [] → items ≡ (made ++ told ∷ []) ++ reply.NoMemory ∷ []
one_kept made told items is = is ∙ sym (append_assoc made (told ∷ []) (reply.NoMemory ∷ []))

-- a turn that may have no further step has made all
none_more : (n m : ℕ) (more : Bool) → n ≤ m → more ≡ nat_lt n m → more ≡ false → m ≡ n
none_more n m more within is none = (let no : nat_lt n m ≡ false = sym is ∙ none in grind (arith, nat_tests, within, no))

one_more : (n m : ℕ) (more : Bool) → more ≡ nat_lt n m → more ≡ true → n < m
one_more n m more is there = (let yes : nat_lt n m ≡ true = sym is ∙ there in grind (arith, nat_tests, yes))

pub steps-init : goal.steps-init
steps-init g c = record {
  turning = record {
    made = [];
    kept = c.in_ok-push.ensures.items ∙ ap (λ (xs : List Reply). xs ++ reply.NoMemory ∷ []) c.new-replies.ensures.items;
    count = refl;
    steps = λ sound. refl;
    views = record { same_id = refl; own_view = c.requires.view; views = λ v h. h };
  };
  within = omega (arith);
  known = (omega arith, omega arith);
  tree_plan = c.requires.delivers.0;
  log_plan = c.requires.delivers.1;
}

-- the latest view is a view of the log after each step
pub step-reply-requires-clause-latest : goal.step-reply-requires-clause-latest
step-reply-requires-clause-latest g c = c.steps.invariant.turning.views.views c.args.latest.now c.requires.latest

pub put-requires : goal.put-requires
put-requires g c =
    let before = c.steps.invariant.turning in
    let two = ap length (two_kept c.steps.replies.items before.made c.push-in-steps.new.self.items before.kept c.in-Ok-push.ensures.items) in
    omega (arith, two, length-append before.made (reply.NoMemory ∷ reply.NoMemory ∷ []))

pub steps-preserved : goal.steps-preserved
steps-preserved g c =
    let n = to_z w64 (of_z w64 c.args.now) in
    let payloads = payloads_of g.T.ZTree.payload_bytes g.L.MetaLog.payload_bytes in
    let running = c.args.peers.now.running in
    let at = moment_over g.T.ZTree.tree g.L.MetaLog.log g.T.ZTree.disk g.L.MetaLog.disk c.args.peers.now.declared in
    let first = at c.args.tree.now c.args.log.now c.args.driver.now in
    let here = at c.steps.tree c.steps.log c.steps.driver in
    let next = at c.step-reply.new.tree c.step-reply.new.log c.step-reply.new.driver in
    let before = c.steps.invariant.turning in
    let told = c.step-reply.result in
    let kept = two_kept c.steps.replies.items before.made c.push-in-steps.new.self.items before.kept c.in-Ok-push.ensures.items in
    let len = length-append before.made (told ∷ []) in
    let most = most_from c.args.start.now c.args.latest.now.image in
    let more = one_more c.steps.done most c.in-Ok.may c.in-Ok.ensures.may c.if-not-may.false in
    record {
      turning = record {
        made = before.made ++ told ∷ [];
        kept = one_kept before.made told c.put.new.replies.items (c.put.ensures before.made reply.NoMemory reply.NoMemory kept);
        count = omega (arith, len, before.count);
        steps = λ sound. further payloads running n first before.made here told next (sym c.ends-last.ensures ∙ c.if-last.false) c.step-reply.ensures.ends c.step-reply.ensures.disks (before.steps sound) sound;
        views = keeps_views first.shared.log here.shared.log next.shared.log first.driver.id here.driver next.driver before.views c.step-reply.ensures.views;
      };
      within = omega (arith, more);
      known = (c.in-Ok.ensures.known c.if-not-may.false).1;
      tree_plan = c.step-reply.ensures.delivers.0;
      log_plan = c.step-reply.ensures.delivers.1;
    }

-- there is no memory for the bound
pub returns-in_default : goal.returns-in_default
returns-in_default g c =
    let n = to_z w64 (of_z w64 c.args.now) in
    let most = most_from c.args.start.now c.args.latest.now.image in
    let payloads = payloads_of g.T.ZTree.payload_bytes g.L.MetaLog.payload_bytes in
    let running = c.args.peers.now.running in
    let at = moment_over g.T.ZTree.tree g.L.MetaLog.log g.T.ZTree.disk g.L.MetaLog.disk c.args.peers.now.declared in
    let tree_left = g.T.ZTree.left c.steps.tree.inner in
    let log_left = g.L.MetaLog.left c.steps.log.inner in
    let first = at c.args.tree.now c.args.log.now c.args.driver.now in
    let here = at c.steps.tree c.steps.log c.steps.driver in
    let before = c.steps.invariant.turning in
    let few : length before.made < most = omega (arith, before.count, c.in_default.ensures.err) in
    let turn = told_as most payloads running c.args.now n first c.steps.replies.items (before.made ++ reply.NoMemory ∷ []) here tree_left log_left (to_z-of_z w64 c.args.now c.ranges.now) before.kept
    (λ sound. memory_ends most payloads running n first before.made here tree_left log_left few (before.steps sound) (record { tree = g.met.T.ZTree.settled c.steps.tree.inner; log = g.met.L.MetaLog.settled c.steps.log.inner })) in
    record {
      ends = λ sound. (turn sound).ends;
      views = before.views;
      delivers = (c.steps.invariant.tree_plan, c.steps.invariant.log_plan);
      disks = λ sound. (turn sound).disks;
      stop = λ sound. (turn sound).stop;
      err = tt;
    }

-- there is no memory for a reply
pub returns-in_default-push : goal.returns-in_default-push
returns-in_default-push g c =
    let most = most_from c.args.start.now c.args.latest.now.image in
    let n = to_z w64 (of_z w64 c.args.now) in
    let payloads = payloads_of g.T.ZTree.payload_bytes g.L.MetaLog.payload_bytes in
    let running = c.args.peers.now.running in
    let at = moment_over g.T.ZTree.tree g.L.MetaLog.log g.T.ZTree.disk g.L.MetaLog.disk c.args.peers.now.declared in
    let tree_left = g.T.ZTree.left c.steps.tree.inner in
    let log_left = g.L.MetaLog.left c.steps.log.inner in
    let first = at c.args.tree.now c.args.log.now c.args.driver.now in
    let here = at c.steps.tree c.steps.log c.steps.driver in
    let before = c.steps.invariant.turning in
    let few : length before.made < most = omega (arith, before.count, one_more c.steps.done most c.in-Ok.may c.in-Ok.ensures.may c.if-not-may.false) in
    let turn = told_as most payloads running c.args.now n first c.push-in-steps.new.self.items (before.made ++ reply.NoMemory ∷ []) here tree_left log_left (to_z-of_z w64 c.args.now c.ranges.now) (same_kept c.steps.replies.items before.made c.push-in-steps.new.self.items before.kept c.in_default-push.ensures.items)
    (λ sound. memory_ends most payloads running n first before.made here tree_left log_left few (before.steps sound) (record { tree = g.met.T.ZTree.settled c.steps.tree.inner; log = g.met.L.MetaLog.settled c.steps.log.inner })) in
    record {
      ends = λ sound. (turn sound).ends;
      views = before.views;
      delivers = (c.steps.invariant.tree_plan, c.steps.invariant.log_plan);
      disks = λ sound. (turn sound).disks;
      stop = λ sound. (turn sound).stop;
      err = tt;
    }

-- the turn ends with this step
pub returns-then-last : goal.returns-then-last
returns-then-last g c =
    let most = most_from c.args.start.now c.args.latest.now.image in
    let n = to_z w64 (of_z w64 c.args.now) in
    let payloads = payloads_of g.T.ZTree.payload_bytes g.L.MetaLog.payload_bytes in
    let running = c.args.peers.now.running in
    let at = moment_over g.T.ZTree.tree g.L.MetaLog.log g.T.ZTree.disk g.L.MetaLog.disk c.args.peers.now.declared in
    let tree_left = g.T.ZTree.left c.step-reply.new.tree.inner in
    let log_left = g.L.MetaLog.left c.step-reply.new.log.inner in
    let first = at c.args.tree.now c.args.log.now c.args.driver.now in
    let here = at c.steps.tree c.steps.log c.steps.driver in
    let next = at c.step-reply.new.tree c.step-reply.new.log c.step-reply.new.driver in
    let before = c.steps.invariant.turning in
    let told = c.step-reply.result in
    let kept = two_kept c.steps.replies.items before.made c.push-in-steps.new.self.items before.kept c.in-Ok-push.ensures.items in
    let replies = c.without_last-then-last.ensures (before.made ++ told ∷ []) reply.NoMemory (one_kept before.made told c.put.new.replies.items (c.put.ensures before.made reply.NoMemory reply.NoMemory kept)) in
    let few : length before.made < most = omega (arith, before.count, one_more c.steps.done most c.in-Ok.may c.in-Ok.ensures.may c.if-not-may.false) in
    let turn = told_as most payloads running c.args.now n first c.without_last-then-last.result.items (before.made ++ told ∷ []) next tree_left log_left (to_z-of_z w64 c.args.now c.ranges.now) replies
    (λ sound. last_ends most payloads running n first before.made here told next tree_left log_left few (sym c.ends-last.ensures ∙ c.if-last.true) c.step-reply.ensures.ends c.step-reply.ensures.disks c.step-reply.ensures.stop (before.steps sound) sound) in
    record {
      ends = λ sound. (turn sound).ends;
      views = keeps_views first.shared.log here.shared.log next.shared.log first.driver.id here.driver next.driver before.views c.step-reply.ensures.views;
      delivers = c.step-reply.ensures.delivers;
      disks = λ sound. (turn sound).disks;
      stop = λ sound. (turn sound).stop;
      err = tt;
    }

-- all steps that the turn may have are made
pub returns-then-not-may : goal.returns-then-not-may
returns-then-not-may g c =
    let most = most_from c.args.start.now c.args.latest.now.image in
    let n = to_z w64 (of_z w64 c.args.now) in
    let payloads = payloads_of g.T.ZTree.payload_bytes g.L.MetaLog.payload_bytes in
    let running = c.args.peers.now.running in
    let at = moment_over g.T.ZTree.tree g.L.MetaLog.log g.T.ZTree.disk g.L.MetaLog.disk c.args.peers.now.declared in
    let tree_left = g.T.ZTree.left c.steps.tree.inner in
    let log_left = g.L.MetaLog.left c.steps.log.inner in
    let first = at c.args.tree.now c.args.log.now c.args.driver.now in
    let here = at c.steps.tree c.steps.log c.steps.driver in
    let before = c.steps.invariant.turning in
    let all : most ≡ length before.made = none_more c.steps.done most c.in-Ok.may c.steps.invariant.within c.in-Ok.ensures.may c.if-not-may.true ∙ sym before.count in
    let turn = told_as most payloads running c.args.now n first c.without_last.result.items before.made here tree_left log_left (to_z-of_z w64 c.args.now c.ranges.now) (c.without_last.ensures before.made reply.NoMemory before.kept)
    (λ sound. all_made most payloads running n first before.made here tree_left log_left all (before.steps sound)) in
    record {
      ends = λ sound. (turn sound).ends;
      views = before.views;
      delivers = (c.steps.invariant.tree_plan, c.steps.invariant.log_plan);
      disks = λ sound. (turn sound).disks;
      stop = λ sound. (turn sound).stop;
      err = tt;
    }

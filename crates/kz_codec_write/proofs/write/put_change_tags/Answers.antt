use Rattle.std.proofs.Common.{◌≡◌, ◌++◌, ℤ, ℕ, List, ap, sym, ◌∙◌, rules, SFits, to_z-of_z}
use Rattle.std.specs.Int.{w8, w32}
use Rattle.kz_spec_data.specs.Forms.{tags_written}
use Rattle.kz_spec_data.specs.Records.{ints_tag, leader_tag, stated_recovery_tag}
use Rattle.kz_codec_write.proofs.Appends.{seq, tags_six}
use Rattle.kz_codec_write.proofs.write.put_change_tags.Goals as goal

pub returns : goal.returns
returns c =
    let b1 = tags_written ((ints_tag 0).tags c.args.r.now.isr) in
    let b2 = tags_written (leader_tag.tags c.args.r.now.leader) in
    let b3 = tags_written ((ints_tag 2).tags c.args.r.now.replicas) in
    let b4 = tags_written ((ints_tag 3).tags c.args.r.now.removing) in
    let b5 = tags_written ((ints_tag 4).tags c.args.r.now.adding) in
    let b6 = tags_written (stated_recovery_tag.tags c.args.r.now.recovery) in
    let f2 : SFits w32 c.args.r.now.leader = search rules in
    let e2 : c.put_leader_tag.new.out.items ≡ c.put_ints_tag.new.out.items ++ b2 = c.in_ok-put_leader_tag.ensures ∙ ap (λ (y : ℤ). c.put_ints_tag.new.out.items ++ tags_written (leader_tag.tags y)) (to_z-of_z f2) in
    let f6 : SFits w8 c.args.r.now.recovery = search rules in
    let e6 : c.put_state_tag.new.out.items ≡ c.put_ints_tag-4.new.out.items ++ b6 = c.in_ok-put_state_tag.ensures ∙ ap (λ (y : ℤ). c.put_ints_tag-4.new.out.items ++ tags_written (stated_recovery_tag.tags y)) (to_z-of_z f6) in
    let k5 : c.put_state_tag.new.out.items ≡ c.put_ints_tag-3.new.out.items ++ (b5 ++ (b6)) = seq c.put_ints_tag-3.new.out.items b5 c.put_ints_tag-4.new.out.items (b6) c.put_state_tag.new.out.items c.in_ok-put_ints_tag-4.ensures e6 in
    let k4 : c.put_state_tag.new.out.items ≡ c.put_ints_tag-2.new.out.items ++ (b4 ++ (b5 ++ (b6))) = seq c.put_ints_tag-2.new.out.items b4 c.put_ints_tag-3.new.out.items (b5 ++ (b6)) c.put_state_tag.new.out.items c.in_ok-put_ints_tag-3.ensures k5 in
    let k3 : c.put_state_tag.new.out.items ≡ c.put_leader_tag.new.out.items ++ (b3 ++ (b4 ++ (b5 ++ (b6)))) = seq c.put_leader_tag.new.out.items b3 c.put_ints_tag-2.new.out.items (b4 ++ (b5 ++ (b6))) c.put_state_tag.new.out.items c.in_ok-put_ints_tag-2.ensures k4 in
    let k2 : c.put_state_tag.new.out.items ≡ c.put_ints_tag.new.out.items ++ (b2 ++ (b3 ++ (b4 ++ (b5 ++ (b6))))) = seq c.put_ints_tag.new.out.items b2 c.put_leader_tag.new.out.items (b3 ++ (b4 ++ (b5 ++ (b6)))) c.put_state_tag.new.out.items e2 k3 in
    let k1 : c.put_state_tag.new.out.items ≡ c.args.out.now.items ++ (b1 ++ (b2 ++ (b3 ++ (b4 ++ (b5 ++ (b6)))))) = seq c.args.out.now.items b1 c.put_ints_tag.new.out.items (b2 ++ (b3 ++ (b4 ++ (b5 ++ (b6))))) c.put_state_tag.new.out.items c.in_ok-put_ints_tag.ensures k2 in
    k1 ∙ ap (λ (l : List ℕ). c.args.out.now.items ++ l) (sym (tags_six ((ints_tag 0).tags c.args.r.now.isr) (leader_tag.tags c.args.r.now.leader) ((ints_tag 2).tags c.args.r.now.replicas) ((ints_tag 3).tags c.args.r.now.removing) ((ints_tag 4).tags c.args.r.now.adding) (stated_recovery_tag.tags c.args.r.now.recovery)))

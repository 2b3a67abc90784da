-- What the line of a znode that is rendered is made of.
use Rattle.std.proofs.Common.{◌≡◌, ℕ, List, ◌++◌, ap, sym, ◌∙◌, append_assoc, codes}
use Rattle.json.specs.Print.{quoted}
use Rattle.json.proofs.OnLiterals.{json_on_literals}
use Rattle.kz_types.specs.declared.tree.Rendered.{Rendered}
use Rattle.kz_spec_machine.specs.Dumps.{rendered_line}

-- two texts between others, with one more at the end
ended : (x mid y last end : List ℕ) → (x ++ (mid ++ (y ++ last))) ++ end ≡ x ++ (mid ++ (y ++ (last ++ end)))
ended x mid y last end = append_assoc x (mid ++ (y ++ last)) end ∙ ap (λ w. x ++ w) (append_assoc mid (y ++ last) end ∙ ap (λ w. mid ++ w) (append_assoc y last end))

rendered_is : (z : Rendered) → rendered_line z ≡ codes "{\"body\":" ++ (quoted z.body ++ (codes ",\"path\":" ++ (quoted z.path ++ codes "}\n")))
unfolding rendered_line json_on_literals
rendered_is z = ap (λ w. codes "{\"body\":" ++ w) (ended (quoted z.body) (codes ",\"path\":") (quoted z.path) (codes "}") (codes "\n"))

-- five texts that are added one after another
added : (a b c d e : List ℕ) → ((((a ++ b) ++ c) ++ d) ++ e) ≡ a ++ (b ++ (c ++ (d ++ e)))
added a b c d e = append_assoc ((a ++ b) ++ c) d e ∙ (append_assoc (a ++ b) c (d ++ e) ∙ append_assoc a b (c ++ (d ++ e)))

-- the line of a znode whose parts are added one after another
pub rendered_added : (z : Rendered) → ((((codes "{\"body\":" ++ quoted z.body) ++ codes ",\"path\":") ++ quoted z.path) ++ codes "}\n") ≡ rendered_line z
rendered_added z = added (codes "{\"body\":") (quoted z.body) (codes ",\"path\":") (quoted z.path) (codes "}\n") ∙ sym (rendered_is z)

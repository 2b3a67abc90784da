-- Known tags of sections.
use Rattle.std.proofs.Common.{◌≡◌, ℕ, ◌+◌, ◌<◌, Bool, true, false, cond, ◌==◌, List, [], ◌∷◌, ◌++◌, length, Option, Some, None, Result, Ok, Err, refl, sym, ap, ◌∙◌, subst, append-nil, arith, eqb-true, ne_eqb}
use Rattle.kz_types.specs.declared.record.ByteFault.{ByteFault}
use Rattle.kz_types.specs.declared.record.CodecFault.TheVariants.{BadField}
use Rattle.kz_spec_data.specs.Fields.{Format, ◌>>=◌}
use Rattle.kz_spec_data.specs.Forms.{with_field_fault, Tag, Known, both, field_of, Content, plain, text_content, with_tag_fault, tag_value, Says, tag}
use Rattle.kz_laws_values.proofs.Exact.{AreSmall, came, ok_same, Exact}
use Rattle.kz_laws_values.proofs.Basics.{passed_true, lifted_same}
use Rattle.kz_laws_values.proofs.Counted.{judged_is, judged_good, counted_exact}
use Rattle.kz_laws_values.proofs.Sections.{Steps, Rising, ExactTags}

-- ---- what a tag holds

pub record ExactContent {X : Type 0} (c : Content X) : Type 0 where
  pub exact : Exact c.format
  pub judge_is : (end : ℕ) (x : X) → c.good x → c.judge end x ≡ Ok x
  pub judge_good : (end : ℕ) (x y : X) → c.judge end x ≡ Ok y → c.good y × (x ≡ y)

pub plain_exact : {X : Type 0} (f : Format ByteFault X) → Exact f → ExactContent (plain f)
plain_exact f ef = record { exact = ef; judge_is = λ end x good. refl; judge_good = λ end x y h. (tt, ok_same x y h) }

pub text_content_exact : ExactContent text_content
text_content_exact = record { exact = counted_exact 1; judge_is = judged_is; judge_good = judged_good }

taken_same : {X : Type 0} (at : ℕ) (m : Result X ByteFault) (y : X) → with_tag_fault at m ≡ Ok y → m ≡ Ok y
taken_same at (Ok x) y h = cc
taken_same at (Err e) y h = absurd (cc)

pub none_left : (l : List ℕ) → length l ≡ 0 → l ≡ []
none_left [] e = refl
none_left (x ∷ l) e = absurd (omega arith)

filled_is : {X : Type 0} (c : Content X) → ExactContent c → (place at : ℕ) (bytes : List ℕ) (x : X) → c.good x → c.format.spells x bytes → tag_value c place (record { at = at; left = bytes }) ≡ Ok x
filled_is c ec place at bytes x good spelled =
    ap (λ b. tag_value c place (record { at = at; left = b })) (sym (append-nil bytes))
    ∙ ap (λ m. with_tag_fault place m >>= λ y. cond (length y.1.left == 0) (with_field_fault (c.judge y.1.at y.0)) (Err (BadField place))) (ec.exact.taken x bytes [] at spelled)
    ∙ ap with_field_fault (ec.judge_is (at + length bytes) x good)

filled_says : {X : Type 0} (c : Content X) → ExactContent c → (place at : ℕ) (bytes : List ℕ) (x : X) → AreSmall bytes → tag_value c place (record { at = at; left = bytes }) ≡ Ok x → c.good x × c.format.spells x bytes
filled_says c ec place at bytes x small h =
    let k = came (with_tag_fault place (c.format.read (record { at = at; left = bytes }))) (λ y. cond (length y.1.left == 0) (with_field_fault (c.judge y.1.at y.0)) (Err (BadField place))) x h in
    let one = ec.exact.given k.value.0 (record { at = at; left = bytes }) k.value.1 small (taken_same place (c.format.read (record { at = at; left = bytes })) k.value k.first) in
    let d = passed_true (length k.value.1.left == 0) (BadField place) (with_field_fault (c.judge k.value.1.at k.value.0)) x k.second in
    let end : k.value.1.left ≡ [] = none_left k.value.1.left (eqb-true (length k.value.1.left) 0 d.0) in
    let whole : bytes ≡ one.bytes = one.split ∙ ap (λ b. one.bytes ++ b) end ∙ append-nil one.bytes in
    let good = ec.judge_good k.value.1.at k.value.0 x (lifted_same (c.judge k.value.1.at k.value.0) x d.1) in
    (good.0, subst (λ b. c.format.spells x b) (sym whole) (subst (λ y. c.format.spells y one.bytes) good.1 one.spelled))

-- ---- one tag

-- what a tag makes of a value, where its number is the known one or is not
abbrev pub Fills : {X : Type 0} → Content X → Bool → List ℕ → X → X → Type 0
Fills content true bytes x next = content.good next × content.format.spells next bytes
Fills content false bytes x next = x ≡ next

abbrev pub step_of_tag : {X : Type 0} → ℕ → Content X → ℕ → List ℕ → X → X → Type 0
step_of_tag number content other bytes x next = Fills content (other == number) bytes x next

fills_is : {X : Type 0} (c : Content X) → ExactContent c → (same : Bool) (place at : ℕ) (bytes : List ℕ) (x next : X) → Fills c same bytes x next
    → cond same (tag_value c place (record { at = at; left = bytes })) (Ok x) ≡ Ok next
fills_is c ec true place at bytes x next f = filled_is c ec place at bytes next f.0 f.1
fills_is c ec false place at bytes x next f = ap (λ y. Ok y) f

fills_says : {X : Type 0} (c : Content X) → ExactContent c → (same : Bool) (place at : ℕ) (bytes : List ℕ) (x next : X) → AreSmall bytes
    → cond same (tag_value c place (record { at = at; left = bytes })) (Ok x) ≡ Ok next → Fills c same bytes x next
fills_says c ec true place at bytes x next small h = filled_says c ec place at bytes next small h
fills_says c ec false place at bytes x next small h = ok_same x next h

pub none_later : (number least : ℕ) (ts : List Tag) → number < least → Rising least ts → field_of number ts ≡ None
none_later number least [] lt r = refl
none_later number least (t ∷ ts) lt r =
    let apart : (t.number == number) ≡ false = ne_eqb t.number number (λ e. omega (arith, lt, r.0, e)) in
    ap (λ b. cond b (Some t.bytes) (field_of number ts)) apart ∙ none_later number (t.number + 1) ts (omega (arith, lt, r.0)) r.1

said_step : {X : Type 0} (c : Content X) (x mid end : X) (bytes : List ℕ) (later : Option (List ℕ)) (same : Bool)
    → Fills c same bytes x mid → Says c mid end later → (same ≡ true → later ≡ None) → Says c x end (cond same (Some bytes) later)
said_step c x mid end bytes later true f says none =
    let last : end ≡ mid = subst (Says c mid end) (none refl) says in
    subst (λ y. c.good y × c.format.spells y bytes) (sym last) f
said_step c x mid end bytes later false f says none = subst (λ y. Says c y end later) (sym f) says

tag_said : {X : Type 0} (number : ℕ) (c : Content X) (ts : List Tag) (least : ℕ) (x end : X) → Rising least ts → Steps (step_of_tag number c) ts x end → Says c x end (field_of number ts)
tag_said number c [] least x end rising steps = sym steps
tag_said number c (t ∷ ts) least x end rising steps =
    said_step c x steps.0 end t.bytes (field_of number ts) (t.number == number) steps.1
    (tag_said number c ts (t.number + 1) steps.0 end rising.1 steps.2)
    (λ e. none_later number (t.number + 1) ts (omega (arith, eqb-true t.number number e)) rising.1)

-- the value between a tag and those after it
record Between {X : Type 0} (c : Content X) (x end : X) (bytes : List ℕ) (later : Option (List ℕ)) (same : Bool) : Type 0 where
  mid : X
  step : Fills c same bytes x mid
  after : Says c mid end later

stepped_step : {X : Type 0} (c : Content X) (x end : X) (bytes : List ℕ) (later : Option (List ℕ)) (same : Bool)
    → Says c x end (cond same (Some bytes) later) → (same ≡ true → later ≡ None) → Between c x end bytes later same
stepped_step c x end bytes later true says none = record { mid = end; step = says; after = subst (Says c end end) (sym (none refl)) refl }
stepped_step c x end bytes later false says none = record { mid = x; step = refl; after = says }

tag_stepped : {X : Type 0} (number : ℕ) (c : Content X) (ts : List Tag) (least : ℕ) (x end : X) → Rising least ts → Says c x end (field_of number ts) → Steps (step_of_tag number c) ts x end
tag_stepped number c [] least x end rising says = sym says
tag_stepped number c (t ∷ ts) least x end rising says =
    let b = stepped_step c x end t.bytes (field_of number ts) (t.number == number) says (λ e. none_later number (t.number + 1) ts (omega (arith, eqb-true t.number number e)) rising.1) in
    (b.mid, b.step, tag_stepped number c ts (t.number + 1) b.mid end rising.1 b.after)

pub tag_exact : {X : Type 0} (number : ℕ) (default : X) (is_default : X → Bool) (c : Content X) → ExactContent c → ExactTags (tag number default is_default c) (step_of_tag number c)
tag_exact number default is_default c ec = record {
  takes = λ other place at bytes x next step. fills_is c ec (other == number) place at bytes x next step;
  gives = λ other place at bytes x next small h. fills_says c ec (other == number) place at bytes x next small h;
  said = λ ts x rising steps. tag_said number c ts 0 default x rising steps;
  stepped = λ ts x rising says. tag_stepped number c ts 0 default x rising says;
}

-- ---- two parts

abbrev pub step_of_both : {S T : Type 0} → (ℕ → List ℕ → S → S → Type 0) → (ℕ → List ℕ → T → T → Type 0) → ℕ → List ℕ → S × T → S × T → Type 0
step_of_both one two number bytes s next = one number bytes s.0 next.0 × two number bytes s.1 next.1

steps_apart : {S T : Type 0} (one : ℕ → List ℕ → S → S → Type 0) (two : ℕ → List ℕ → T → T → Type 0) (ts : List Tag) (s end : S × T)
    → Steps (step_of_both one two) ts s end → Steps one ts s.0 end.0 × Steps two ts s.1 end.1
steps_apart one two [] s end steps = (ap (λ p. p.0) steps, ap (λ p. p.1) steps)
steps_apart one two (t ∷ ts) s end steps =
    let more = steps_apart one two ts steps.0 end steps.2 in
    ((steps.0.0, steps.1.0, more.0), (steps.0.1, steps.1.1, more.1))

steps_joined : {S T : Type 0} (one : ℕ → List ℕ → S → S → Type 0) (two : ℕ → List ℕ → T → T → Type 0) (ts : List Tag) (s end : S × T)
    → Steps one ts s.0 end.0 → Steps two ts s.1 end.1 → Steps (step_of_both one two) ts s end
steps_joined one two [] s end a b = λ i. (a i, b i)
steps_joined one two (t ∷ ts) s end a b = ((a.0, b.0), (a.1, b.1), steps_joined one two ts (a.0, b.0) end a.2 b.2)

both_takes : {S T : Type 0} (a : Known S) (b : Known T) (one : ℕ → List ℕ → S → S → Type 0) (two : ℕ → List ℕ → T → T → Type 0) → ExactTags a one → ExactTags b two
    → (number place at : ℕ) (bytes : List ℕ) (s next : S × T) → step_of_both one two number bytes s next → (both a b).take number place (record { at = at; left = bytes }) s ≡ Ok next
both_takes a b one two ea eb number place at bytes s next step =
    ap (λ m. m >>= λ first. b.take number place (record { at = at; left = bytes }) s.1 >>= λ second. Ok (first, second)) (ea.takes number place at bytes s.0 next.0 step.0)
    ∙ ap (λ m. m >>= λ second. Ok (next.0, second)) (eb.takes number place at bytes s.1 next.1 step.1)

both_gives : {S T : Type 0} (a : Known S) (b : Known T) (one : ℕ → List ℕ → S → S → Type 0) (two : ℕ → List ℕ → T → T → Type 0) → ExactTags a one → ExactTags b two
    → (number place at : ℕ) (bytes : List ℕ) (s next : S × T) → AreSmall bytes → (both a b).take number place (record { at = at; left = bytes }) s ≡ Ok next → step_of_both one two number bytes s next
both_gives a b one two ea eb number place at bytes s next small h =
    let c = came (a.take number place (record { at = at; left = bytes }) s.0) (λ first. b.take number place (record { at = at; left = bytes }) s.1 >>= λ second. Ok (first, second)) next h in
    let d = came (b.take number place (record { at = at; left = bytes }) s.1) (λ second. Ok (c.value, second)) next c.second in
    subst (λ q. step_of_both one two number bytes s q) (ok_same (c.value, d.value) next d.second)
    (ea.gives number place at bytes s.0 c.value small c.first, eb.gives number place at bytes s.1 d.value small d.first)

pub both_exact : {S T : Type 0} (a : Known S) (b : Known T) (one : ℕ → List ℕ → S → S → Type 0) (two : ℕ → List ℕ → T → T → Type 0) → ExactTags a one → ExactTags b two → ExactTags (both a b) (step_of_both one two)
both_exact a b one two ea eb = record {
  takes = both_takes a b one two ea eb;
  gives = both_gives a b one two ea eb;
  said = λ ts s rising steps. let apart = steps_apart one two ts (a.default, b.default) s steps in (ea.said ts s.0 rising apart.0, eb.said ts s.1 rising apart.1);
  stepped = λ ts s rising says. steps_joined one two ts (a.default, b.default) s (ea.stepped ts s.0 rising says.0) (eb.stepped ts s.1 rising says.1);
}

-- What a line of a script does to a run.
use Rattle.std.specs.Prelude.{◌≡◌, ℕ, ◌+◌, Bool, true, false, List, [], Option, Some, None}
use Rattle.kz_types.specs.declared.machine.Event.{Event}
use Rattle.kz_types.specs.declared.outside.Status.{Status}
use Rattle.kz_types.specs.declared.outside.Status.TheVariants as status
use Rattle.kz_spec_data.specs.Lines.{is_passed_over}
use Rattle.kz_spec_data.specs.Events.{line_event}
use Rattle.kz_spec_machine.specs.Machine.{next}
use Rattle.kz_spec_machine.specs.Output.{Place, place_after_line, place_after_event, written_for, ending}
use Rattle.kz_spec_machine.specs.Endings.{IsFront}
use Rattle.kz_stream.specs.declared.ending.Next.{Next}
use Rattle.kz_stream.specs.declared.ending.Next.TheVariants as next_is
use Rattle.kz_stream.specs.Endings.{status_of}

-- The text that is written for a line, the status if the run ends with it, and the place after it.
pub record Effect : Type 0 where
  pub text : List ℕ
  pub end : Option Status
  pub place : Place

abbrev pub effect_of_event : Place → Event → Effect
effect_of_event p e = record { text = written_for p e; end = ending (next p.world e).1; place = place_after_event p e }

-- of a line that is passed over or isn't, and of the event that it is
abbrev pub effect_by : Place → Bool → Option Event → Effect
effect_by p true e = record { text = []; end = None; place = place_after_line p }
effect_by p false None = record { text = []; end = Some (status.Script (p.lines + 1)); place = p }
effect_by p false (Some e) = effect_of_event p e

abbrev pub effect_of_line : Place → List ℕ → Effect
effect_of_line p line = effect_by p (is_passed_over line) (line_event line)

-- What is printed for an effect. Then the run goes on from the effect's place, or ends as it says, in the effect's world. Where the event
-- failed, a front of its text is printed.
abbrev pub Prints : Effect → List ℕ → Next → Place → Type 0
Prints e text next_is.GoesOn new = (text ≡ e.text) × (e.end ≡ None) × (new ≡ e.place)
Prints e text (next_is.Ends why) new = (text ≡ e.text) × (e.end ≡ Some (status_of why)) × (new.world ≡ e.place.world)
Prints e text (next_is.Fails f) new = IsFront text e.text

-- The definitions at sheets whose trains run short. Assumes nothing.
use Rattle.std.specs.Prelude.{◌≡◌, refl, [], ◌∷◌, replicate}
use Rattle.model.specs.Admission.{admission}
use Rattle.model.specs.declared.Refusal.TheVariants.{TooFewPlaces}
use Rattle.std.specs.Prelude.{Ok, Err}
use Rattle.rounds.specs.Loading.{load, take_orders}
use Rattle.rounds.specs.Timing.{awaited}
use Rattle.rounds.specs.Answers.{last_arrival_in}
use Rattle.rounds.specs.ShortCases.{one_too_few, short_admissions, short_lists, stated_short_lists, short_plans, stated_short_plans}

pub record ShortCasesAre : Type 0 where
  pub admitted : short_admissions ≡ replicate 6 (Ok tt)
  pub lists : short_lists ≡ stated_short_lists
  pub plans : short_plans ≡ stated_short_plans

pub short_cases_are : ShortCasesAre
unfolding short_admissions short_lists stated_short_lists short_plans stated_short_plans last_arrival_in
short_cases_are = record { admitted = refl; lists = refl; plans = refl }

-- two places for three orders
pub seven_for_too_few : admission one_too_few ≡ Err TooFewPlaces
unfolding admission
seven_for_too_few = refl

-- ---- step 1 needed no change

-- a train with three places takes the two orders that may ride it, and not the one whose latest train is below it
pub takes_both : take_orders 3 (λ j. 5) (2 ∷ 1 ∷ 2 ∷ []) 2 3 (0 ∷ 0 ∷ 0 ∷ []) ≡ (2 ∷ 0 ∷ 2 ∷ [])
unfolding take_orders
takes_both = refl

-- three trains of 64 places and two orders: every order is loaded, and trains 1 and 2 stay empty
pub all_on_the_last : load 2 3 (λ j. 5) (λ i. 64) (3 ∷ 3 ∷ []) ≡ (3 ∷ 3 ∷ [])
unfolding load
all_on_the_last = refl

-- and an empty train awaits no release
pub nothing_awaited : awaited (λ i. 0) (λ j. 5) (3 ∷ 3 ∷ []) 2 1 ≡ 0
unfolding awaited
nothing_awaited = refl

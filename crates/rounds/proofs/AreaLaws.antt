-- Laws of the lent areas: the test of their lengths, how many numbers are written, and what a refused call returns and leaves. Assumes nothing.
use Rattle.std.specs.Prelude.{◌≡◌, refl, Bool, true, false, cond, List, [], ◌∷◌, ◌++◌, ℕ, zero, suc, ◌*◌, ◌≤◌, ◌<◌, ℤ, pos, length}
use Rattle.std.proofs.Common.{ap, arith, length-append}
use Rattle.numbers.specs.DecidesLaws.{Decides, decides_le, decides_and, decides_iff}
use Rattle.model.specs.Sheet.{Sheet, places}
use Rattle.model.specs.Limits.{numbers_a_pair, numbers_a_train}
use Rattle.model.specs.Lateness.{Pair}
use Rattle.model.specs.Refusal.{number, returned, number_of, returned_of, of_reply}
use Rattle.model.specs.Admission.{admission}
use Rattle.model.proofs.AdmissionLaws.{admission_returns, seven_means}
use Rattle.std.specs.Prelude.{Ok, Err}
use Rattle.model.specs.Replies.{Admission}
use Rattle.model.specs.declared.Refusal.{Refusal}
use Rattle.model.specs.declared.Refusal.TheVariants.{NoSchedule, AreaTooShort, WishTooEarly}
use Rattle.rounds.specs.Recording.{Plan, Entry}
use Rattle.rounds.specs.Outset.{Outset, ordinary}
use Rattle.rounds.specs.Rounds.{rounds_in, recorded_in, search_from}
use Rattle.rounds.specs.Answers.{Answer, refused, given, Listing, list_of, list, list_from, in_time, chosen, choose, choose_from}
use Rattle.rounds.specs.Areas.{PlanAreas, pairs_needed, times_needed, ListRoom, list_room, PlanRoom, plan_room}
use Rattle.rounds.specs.Areas.{after_admission, tested, after_tests, list_to, choose_to, list_reply, choice_reply}
use Rattle.rounds.specs.Areas.{pair_numbers, time_numbers, plan_times, list_left, plan_left}

-- test 10, of each call
pub decides_list_room : (s : Sheet) (pairs : List ℤ) → Decides (ListRoom s pairs) (list_room s (length pairs))
decides_list_room s pairs = decides_le (pairs_needed s) (length pairs)

pub decides_plan_room : (s : Sheet) (lent : PlanAreas) → Decides (PlanRoom s lent) (plan_room s (length lent.trains) (length lent.times))
decides_plan_room s lent =
    decides_iff (λ x. record { trains = x.0; times = x.1 }) (λ x. (x.trains, x.times))
    (decides_and (decides_le s.orders (length lent.trains)) (decides_le (times_needed s) (length lent.times)))

-- two numbers a pair
pub pair_numbers_length : (pairs : List Pair) → length (pair_numbers pairs) ≡ numbers_a_pair * length pairs
unfolding pair_numbers
pair_numbers_length [] = refl
pair_numbers_length (p ∷ ps) = omega (arith, pair_numbers_length ps)

-- one more pair is two more numbers, behind the others
pub pair_numbers_behind : (before : List Pair) (p : Pair) → pair_numbers (before ++ (p ∷ [])) ≡ pair_numbers before ++ (pos p.last ∷ p.worst ∷ [])
unfolding pair_numbers
pair_numbers_behind [] p = refl
pair_numbers_behind (x ∷ before) p = ap (λ l. pos x.last ∷ x.worst ∷ l) (pair_numbers_behind before p)

-- three numbers a train
pub time_numbers_length : (departure arrival window : List ℕ) (q : ℕ) → length (time_numbers departure arrival window q) ≡ numbers_a_train * q
unfolding time_numbers
time_numbers_length departure arrival window zero = refl
time_numbers_length departure arrival window (suc q) = simp (length-append, time_numbers_length departure arrival window q) (omega arith)

pub plan_times_length : (s : Sheet) (x : Plan) → length (plan_times s x) ≡ times_needed s
plan_times_length s x = time_numbers_length x.departure x.arrival x.window s.trains

-- ---- a refused call: "always with 0 returned and every lent area as found"

-- whether a call's answer refuses, and why
abbrev pub of_answer : {A : Type 0} → Answer A → Admission
of_answer (refused r) = Err r
of_answer (given x) = Ok tt

-- what holds of no refusal, of 10 and of each refusal of the sheet holds of the tests
pub tested_so : (P : Admission → Type 0) (s : Sheet) (room : Bool) → P (Ok tt) → P (Err AreaTooShort)
    → ((r : Refusal) → admission s ≡ Err r → P (Err r)) → P (tested s room)
unfolding tested after_admission
tested_so P s room granted short h = go (admission s) refl
  where
    long : (b : Bool) → P (cond b (Ok tt) (Err AreaTooShort))
    long true = granted
    long false = short

    go : (a : Admission) → admission s ≡ a → P (after_admission room a)
    go (Ok _) u = long room
    go (Err r) u = h r u

-- of whatever a call on the sheet s refuses: 0 is returned, and 7 is given "only if the capacities add up to less than n"
pub record Refuses (s : Sheet) (x : Admission) : Type 0 where
  pub returns_zero : returned_of x ≡ 0
  pub seven : number_of x ≡ 7 → places s.capacity s.trains < s.orders

-- so of no refusal, and of one behind the tests of the sheet
pub refuses_nothing : (s : Sheet) → Refuses s (Ok tt)
refuses_nothing s = record { returns_zero = refl; seven = λ e. absurd (omega arith) }

pub refuses_later : (s : Sheet) (r : Refusal) → returned r ≡ 0 → 8 ≤ number r → Refuses s (Err r)
refuses_later s r z later = record { returns_zero = z; seven = λ e. absurd (omega arith) }

pub tests_refuse : (s : Sheet) (room : Bool) → Refuses s (tested s room)
tests_refuse s room =
    tested_so (Refuses s) s room (refuses_nothing s) (refuses_later s AreaTooShort refl (omega arith))
    (λ r u. record { returns_zero = admission_returns r s u; seven = seven_means r s u })

-- where it holds of the answer of the rounds it holds of the call's answer
pub answer_refuses : {A : Type 0} (s : Sheet) (room : Bool) (x : Answer A) → Refuses s (of_answer x)
    → Refuses s (of_answer (after_tests (tested s room) x))
unfolding after_tests
answer_refuses s room x h = go (tested s room) (tests_refuse s room)
  where
    go : (t : Admission) → Refuses s t → Refuses s (of_answer (after_tests t x))
    go (Ok _) u = h
    go (Err r) u = u

-- what each call returns is whether its answer refuses
pub listing_told : (x : Answer Listing) → of_reply (list_reply x) ≡ of_answer x
unfolding list_reply
listing_told (refused r) = refl
listing_told (given l) = refl

pub choice_told : (x : Answer Entry) → of_reply (choice_reply x) ≡ of_answer x
unfolding choice_reply
choice_told (refused r) = refl
choice_told (given e) = refl

-- the rounds refuse with 8
pub rounds_refuse : (s : Sheet) (o : Outset) → Refuses s (of_answer (list_from s o))
unfolding list_from list_of
rounds_refuse s o = go (rounds_in (search_from s o)) (recorded_in (search_from s o))
  where
    go : (c : ℕ) (recorded : List Entry) → Refuses s (of_answer (list_of c recorded))
    go c [] = refuses_later s NoSchedule refl (omega arith)
    go c (e ∷ es) = refuses_nothing s

pub list_refuses : (s : Sheet) (lent : List ℤ) → Refuses s (of_reply (list_reply (list_to s lent)))
unfolding list_to
list_refuses s lent = rw (listing_told (list_to s lent)) (answer_refuses s (list_room s (length lent)) (list s) (rounds_refuse s (ordinary s)))

-- and a choice from them with 8 or 11
pub choices_refuse : (s : Sheet) (o : Outset) (wish : ℕ) → Refuses s (of_answer (choose_from s o wish))
unfolding choose_from chosen
choices_refuse s o wish = go (recorded_in (search_from s o))
  where
    timely : (b : Bool) (e : Entry) → Refuses s (of_answer (cond b (given e) (refused WishTooEarly)))
    timely true e = refuses_nothing s
    timely false e = refuses_later s WishTooEarly refl (omega arith)

    go : (recorded : List Entry) → Refuses s (of_answer (chosen wish recorded))
    go [] = refuses_later s NoSchedule refl (omega arith)
    go (e ∷ es) = timely (in_time wish e) _

pub choice_refuses : (s : Sheet) (wish : ℕ) (lent : PlanAreas) → Refuses s (of_reply (choice_reply (choose_to s wish lent)))
unfolding choose_to
choice_refuses s wish lent =
    rw (choice_told (choose_to s wish lent))
    (answer_refuses s (plan_room s (length lent.trains) (length lent.times)) (choose s wish) (choices_refuse s (ordinary s) wish))

pub list_as_found : (x : Answer Listing) (found : List ℤ) → 1 ≤ number_of (of_reply (list_reply x)) → list_left x found ≡ found
unfolding list_reply list_left
list_as_found (refused r) found l = refl
list_as_found (given x) found l = absurd (omega arith)

pub plan_as_found : (s : Sheet) (x : Answer Entry) (found : PlanAreas) → 1 ≤ number_of (of_reply (choice_reply x)) → plan_left s x found ≡ found
unfolding choice_reply plan_left
plan_as_found s (refused r) found l = refl
plan_as_found s (given e) found l = absurd (omega arith)

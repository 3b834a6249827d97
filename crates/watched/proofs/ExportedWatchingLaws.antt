-- The contracts of a search that is watched, told in numbers. Assumes nothing.
use Rattle.std.specs.Prelude.{◌≡◌, refl, true, ℕ, ◌*◌, ◌≤◌, length}
use Rattle.std.proofs.Common.{◌∙◌, ap, subst, arith}
use Rattle.model.specs.Sheet.{Sheet}
use Rattle.model.specs.Limits.{numbers_a_pair}
use Rattle.model.specs.Refusal.{of_round, number_of, returned_of}
use Rattle.std.specs.Prelude.{Result, Ok, Err}
use Rattle.model.specs.declared.Refusal.{Refusal}
use Rattle.model.specs.Replies.{Admission}
use Rattle.model.specs.declared.RoundReply.{RoundReply}
use Rattle.model.specs.declared.RoundReply.TheVariants.{GoesOn, Ended, Refused}
use Rattle.rounds.specs.ByRound.{SearchAreas}
use Rattle.watch.specs.State.{no_state}
use Rattle.watch.specs.Calls.{StartCall, RoundCall}
use Rattle.watch.specs.declared.State.{State}
use Rattle.watch.specs.declared.Moved.{Moved}
use Rattle.exported.specs.Exported.{cause_in}
use Rattle.exported.proofs.ExportedLaws.{numbered}
use Rattle.watched.specs.ExportedWatching.{start_of, started_so, round_told, round_of, ExportedStart, ExportedRound}
use Rattle.watched.specs.declared.Start.{Start}
use Rattle.watched.specs.declared.Round.{Round}

-- ---- a start

cause_in_is : (a : Admission) → cause_in a ≡ record { number = number_of a; returned = returned_of a }
cause_in_is (Ok _) = refl
cause_in_is (Err r) = refl

pub exported_start : (s : Sheet) (lent : SearchAreas) (x : Result State Refusal) (r : Start) → StartCall s lent x → r ≡ start_of x → ExportedStart s lent r
exported_start s lent (Ok state) r call e =
    rw e
    (record {
      equal = ap cause_in call.equal;
      call = subst (λ (a : Admission). StartCall s lent (started_so a state)) call.equal call;
      begins = λ u. call.begins state refl;
      beside = λ l. absurd (omega arith);
      no_eight = call.no_eight;
      returns_zero = call.returns_zero;
      seven = call.seven;
    })
exported_start s lent (Err f) r call e =
    rw e
    (record {
      equal = ap cause_in call.equal;
      call = subst (λ (a : Admission). StartCall s lent (started_so a no_state)) call.equal call;
      begins = λ u. absurd (omega (arith, numbered f));
      beside = λ l. refl;
      no_eight = call.no_eight;
      returns_zero = call.returns_zero;
      seven = call.seven;
    })

-- ---- a round call

told_cause : (x : State) (r : RoundReply) → (round_told x r).cause ≡ record { number = number_of (of_round r); returned = returned_of (of_round r) }
told_cause x GoesOn = refl
told_cause x (Ended pairs rounds) = refl
told_cause x (Refused r) = refl

told_state : (x : State) (r : RoundReply) → (round_told x r).state ≡ x
told_state x GoesOn = refl
told_state x (Ended pairs rounds) = refl
told_state x (Refused r) = refl

-- an end without number, pairs and rounds
told_none : (x : State) (r : RoundReply) → number_of (of_round r) ≡ 0 → (round_told x r).ended ≡ true → (round_told x r).pairs ≡ 0 → (round_told x r).rounds ≡ 0
    → r ≡ Ended 0 0
told_none x GoesOn e over none no_round = absurd (let z : ◌≡◌ {A = ℕ} 0 1 = cc in omega arith)
told_none x (Ended pairs rounds) e over none no_round = rw (none, no_round) refl
told_none x (Refused r) e over none no_round = absurd (omega (arith, numbered r))

-- the pairs that are told of lie where those of the reply do
told_within : (x : State) (r : RoundReply) (most : ℕ) → ((pairs rounds : ℕ) → r ≡ Ended pairs rounds → numbers_a_pair * pairs ≤ most)
    → numbers_a_pair * (round_told x r).pairs ≤ most
told_within x GoesOn most f = omega arith
told_within x (Ended pairs rounds) most f = f pairs rounds refl
told_within x (Refused r) most f = omega arith

pub exported_round : (s : Sheet) (state : State) (left found : SearchAreas) (x : Moved) (r : Round) → RoundCall s state x left found → r ≡ round_of x
    → ExportedRound s state r left found
exported_round s state left found x r call e =
    let cause = ap (λ (p : Round). p.cause) e ∙ told_cause x.state x.reply in
    let next = ap (λ (p : Round). p.state) e ∙ told_state x.state x.reply in
    record {
      moved = x;
      equal = e;
      call = call;
      moves = λ lent calls h. rw next (call.moves lent calls h);
      says = λ lent calls h. e ∙ rw (next, call.says lent calls h) refl;
      prompt = λ lent calls h. rw next (call.prompt lent calls h);
      after_the_end = λ over. rw next (call.after_the_end over);
      no_search = λ n over none no_round.
          rw next (call.no_search (told_none x.state x.reply (rw cause at n) (rw e at over) (rw e at none) (rw e at no_round)));
      within = rw e (told_within x.state x.reply (length left.pairs) call.within);
      refuses = rw cause call.refuses;
      returns_zero = rw cause call.returns_zero;
      as_found = rw cause call.as_found;
    }

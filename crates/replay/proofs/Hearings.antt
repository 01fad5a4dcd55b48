-- One event: what is heard, noted, tested and put out, joined to the play's next moment and its lines.
-- Assumes nothing.
use Rattle.std.proofs.Common.{◌≡◌, ℕ, Bool, true, false, cond, ◌||◌, List, [], ◌++◌, is_some, Some, None, Option, refl, ap, ◌∙◌, append_assoc}
use Rattle.std.specs.Bool.{then_some}
use Rattle.std.specs.Option.{option_map, option_or, option_to_list}
use Rattle.wire.specs.declared.message.Message.{Message}
use Rattle.system.specs.declared.line.Line.{Line}
use Rattle.system.specs.declared.line.Line.TheVariants.{Broken}
use Rattle.system.specs.declared.line.Party.{Party}
use Rattle.system.specs.declared.line.Party.TheVariants.{Server, Client}
use Rattle.system.specs.declared.line.Premise.{Premise}
use Rattle.system.specs.declared.line.Premise.TheVariants as premise
use Rattle.system.specs.Parties.{Event, Outcome, Parties, happens}
use Rattle.system.specs.Watch.{Watch, apart, breaks, differ, exhausts, knows, or_else, sets_back, shares_number, unsent, watched}
use Rattle.system.specs.Report.{Play, broken, fault_lines, lines_of, listener, next_of, premise_line, sharing, some, tick_lines, two_line}
use Rattle.replay.specs.declared.run.Foreseen.{Foreseen}
use Rattle.replay.specs.Checks.{Foresees, first_broken}
use Rattle.replay.specs.Heard.{Heard}
use Rattle.replay.specs.Parties.{event_of}

abbrev pub six : Bool → Bool → Bool → Bool → Bool → Bool → Option Premise
six a b c d e f =
    or_else a premise.Clocks (or_else b premise.Message (or_else c premise.Nonce (or_else d premise.Number (or_else e premise.Settings (or_else f premise.Count None)))))

-- the first of them, as the code joins them
pub six_joined : (a b c d e f : Bool) →
    option_or (option_or (option_or (option_or (option_or (then_some a premise.Clocks) (then_some b premise.Message)) (then_some c premise.Nonce)) (then_some d premise.Number)) (then_some e premise.Settings)) (then_some f premise.Count) ≡ six a b c d e f
six_joined true b c d e f = refl
six_joined false true c d e f = refl
six_joined false false true d e f = refl
six_joined false false false true e f = refl
six_joined false false false false true f = refl
six_joined false false false false false true = refl
six_joined false false false false false false = refl

-- the tests are the premises that are broken
first-breaks : (e : Event) (x : Parties) (z : Outcome) (w v : Watch) (c : Foreseen) → Foresees e x w c → first_broken e z.parties z.said v c ≡ breaks e x z w v
first-breaks e x z w v c p =
    let number = shares_number e z.parties in
    let settings = differ v.settings (knows e z.parties) in
    let count = exhausts z.said in
    ap (λ (b : Bool). six (b || apart v.settings v.leads) c.message c.nonce number settings count) p.clocks
    ∙ ap (λ (b : Bool). six (sets_back e x || apart v.settings v.leads) b c.nonce number settings count) p.message
    ∙ ap (λ (b : Bool). six (sets_back e x || apart v.settings v.leads) (unsent e w) b number settings count) p.nonce

-- a line that comes once
once : (came : Bool) (b : Option Premise) → cond came [] (option_to_list (option_map Broken b)) ≡ premise_line came b
once true b = refl
once false None = refl
once false (Some p) = refl

once_is : (b : Option Premise) → is_some (option_map Broken b) ≡ is_some b
once_is None = refl
once_is (Some p) = refl

pair_once : (came : Bool) (ls : List Line) → cond came [] ls ≡ two_line came ls
pair_once true ls = refl
pair_once false ls = refl

pair_is : (o : Option Line) → is_some o ≡ some (option_to_list o)
pair_is None = refl
pair_is (Some l) = refl

abbrev played_to : Parties → Watch → (named shared : Bool) → Play
played_to y v n s = record { parties = y; watch = v; named = n; shared = s }

listens : (p : Party) (bs : List ℕ) → p ≡ listener (event_of p bs)
listens Server bs = refl
listens (Client i) bs = refl

-- what an event came to, with what was put out in four parts
pub record Parted (judged : Bool) (e : Event) (p : Party) (z : Outcome) (h : Play) (b : Option Premise) (pair : Option Line) (v : Watch) (n s : Bool) (o0 o1 o2 o3 o4 : List Line) : Type 0 where
  pub listens : p ≡ listener e
  pub watch : v ≡ watched judged e z h.watch
  pub breaks : b ≡ breaks e h.parties z h.watch v
  pub shares : option_to_list pair ≡ sharing e z.parties
  pub named : n ≡ (h.named || is_some b)
  pub shared : s ≡ (h.shared || some (option_to_list pair))
  pub faults : o1 ≡ o0 ++ fault_lines p z.said
  pub premise : o2 ≡ o1 ++ premise_line h.named b
  pub two : o3 ≡ o2 ++ two_line h.shared (option_to_list pair)
  pub tick : o4 ≡ o3 ++ tick_lines e z

module _ (judged : Bool) (e : Event) (p : Party) (z : Outcome) (h : Play) (b : Option Premise) (pair : Option Line) (v : Watch) (n s : Bool) (o0 o1 o2 o3 o4 : List Line) (k : Parted judged e p z h b pair v n s o0 o1 o2 o3 o4) where
  breaks_it : b ≡ broken judged e z h
  breaks_it = k.breaks ∙ ap (λ (u : Watch). breaks e h.parties z h.watch u) k.watch

  plays_on : played_to z.parties v n s ≡ next_of judged e z h
  plays_on =
      ap (λ (u : Watch). played_to z.parties u n s) k.watch
      ∙ ap (λ (x : Bool). played_to z.parties (watched judged e z h.watch) x s) (k.named ∙ ap (λ (o : Option Premise). h.named || is_some o) breaks_it)
      ∙ ap (λ (x : Bool). played_to z.parties (watched judged e z h.watch) (h.named || is_some (broken judged e z h)) x) (k.shared ∙ ap (λ (l : List Line). h.shared || some l) k.shares)

  joined : (a b c d f : List Line) → (((a ++ b) ++ c) ++ d) ++ f ≡ a ++ (b ++ (c ++ (d ++ f)))
  joined a b c d f = simp append_assoc

  says_all : o4 ≡ o0 ++ lines_of judged e z h
  says_all =
      k.tick ∙ ap (λ (l : List Line). l ++ tick_lines e z) (k.two ∙ ap (λ (l : List Line). l ++ two_line h.shared (option_to_list pair)) (k.premise ∙ ap (λ (l : List Line). l ++ premise_line h.named b) k.faults))
      ∙ joined o0 (fault_lines p z.said) (premise_line h.named b) (two_line h.shared (option_to_list pair)) (tick_lines e z)
      ∙ ap (λ (q : Party). o0 ++ (fault_lines q z.said ++ (premise_line h.named b ++ (two_line h.shared (option_to_list pair) ++ tick_lines e z)))) k.listens
      ∙ ap (λ (o : Option Premise). o0 ++ (fault_lines (listener e) z.said ++ (premise_line h.named o ++ (two_line h.shared (option_to_list pair) ++ tick_lines e z)))) breaks_it
      ∙ ap (λ (l : List Line). o0 ++ (fault_lines (listener e) z.said ++ (premise_line h.named (broken judged e z h) ++ (two_line h.shared l ++ tick_lines e z)))) k.shares

  pub parted_heard : z ≡ happens e h.parties → Heard judged e h (played_to z.parties v n s) o0 o4
  parted_heard m = record {
    play = plays_on ∙ ap (λ (o : Outcome). next_of judged e o h) m;
    report = says_all ∙ ap (λ (o : Outcome). o0 ++ lines_of judged e o h) m;
  }

outcome_is : (y : Parties) (said : List Message) (o : Outcome) → y ≡ o.parties → said ≡ o.said → record { parties = y; said = said } ≡ o
outcome_is y said o a b = ap (λ (x : Parties). record { parties = x; said = said }) a ∙ ap (λ (l : List Message). record { parties = o.parties; said = l }) b

pub step-heard : (judged : Bool) (p : Party) (bs : List ℕ) (h : Play) (y : Parties) (said : List Message) (v : Watch) (c : Foreseen) (b : Option Premise) (line pair : Option Line) (n s : Bool) (o0 o1 o2 o3 o4 : List Line) →
    Foresees (event_of p bs) h.parties h.watch c → y ≡ (happens (event_of p bs) h.parties).parties → said ≡ (happens (event_of p bs) h.parties).said →
    v ≡ watched judged (event_of p bs) (record { parties = y; said = said }) h.watch → b ≡ first_broken (event_of p bs) y said v c → line ≡ option_map Broken b →
    o1 ≡ o0 ++ fault_lines p said → (n ≡ (h.named || is_some line)) × (o2 ≡ o1 ++ cond h.named [] (option_to_list line)) → option_to_list pair ≡ sharing (event_of p bs) y →
    (s ≡ (h.shared || is_some pair)) × (o3 ≡ o2 ++ cond h.shared [] (option_to_list pair)) →
    o4 ≡ o3 ++ tick_lines (event_of p bs) (record { parties = y; said = said }) → Heard judged (event_of p bs) h (played_to y v n s) o0 o4
step-heard judged p bs h y said v c b line pair n s o0 o1 o2 o3 o4 a d e w g q i j k l m =
    parted_heard judged (event_of p bs) p (record { parties = y; said = said }) h b pair v n s o0 o1 o2 o3 o4
    (record {
      listens = listens p bs;
      watch = w;
      breaks = g ∙ first-breaks (event_of p bs) h.parties (record { parties = y; said = said }) h.watch v c a;
      shares = k;
      named = j.0 ∙ ap (λ (x : Option Line). h.named || is_some x) q ∙ ap (λ (x : Bool). h.named || x) (once_is b);
      shared = l.0 ∙ ap (λ (x : Bool). h.shared || x) (pair_is pair);
      faults = i;
      premise = j.1 ∙ ap (λ (x : Option Line). o1 ++ cond h.named [] (option_to_list x)) q ∙ ap (λ (x : List Line). o1 ++ x) (once h.named b);
      two = l.1 ∙ ap (λ (x : List Line). o2 ++ x) (pair_once h.shared (option_to_list pair));
      tick = m;
    })
    (outcome_is y said (happens (event_of p bs) h.parties) d e)

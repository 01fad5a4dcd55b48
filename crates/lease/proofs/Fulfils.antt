-- The code is an implementation of server and client: its contracts are what the model's steps are.
-- Assumes nothing.
use Rattle.std.proofs.Common.{Result, sym, ap, ◌∙◌}
use Rattle.lease.specs.declared.fault.Fault.{Fault}
use Rattle.lease.specs.World.{Server, Client}
use Rattle.lease.specs.Holding.{settled}
use Rattle.lease.specs.Run.{server_passes, crashes}
use Rattle.lease.specs.Stands.{client_of}
use Rattle.lease.specs.Code.{ServerImplements, ClientImplements}

pub server_implements : ServerImplements
server_implements =
    record {
      one = λ s t k v w e f. (sym e.0 ∙ f.0, sym e.1 ∙ f.1);
      made_so = λ s k m. m;
      passed_so = λ s k l v n u e m. (cc, m.1 ∙ ap (λ (z : Server). server_passes n z) e.1);
      passed_not = λ s k l v n f e m. ((cc, m.1 ∙ e.1), m.2, rw (← e.1) m.3);
      answered_so = λ s k l v r x e m. (rw (← e.0, ← e.1) m.0, (cc, rw (← e.0, ← e.1) m.2));
      crashed_so = λ s k l v e m. (cc, m.1 ∙ ap (λ (z : Server). crashes z) e.1);
      restarted_so = λ s k l v clock lost e m. (cc, rw (← e.0, ← e.1) m.1);
    }

pub client_implements : ClientImplements
client_implements =
    record {
      one = λ h x y e f. sym e ∙ f;
      started_so = λ clock l m. m;
      crashed_so = λ h l x e m. rw (← e) m;
      passed_so = λ h l x n e m. rw (← e) m;
      passed_not = λ h x n f e m. rw (← e) m;
      asks_so = λ own n p h l x o e m. rw (← e) m;
      heard_so = λ term own g h l x e m. rw (← e) (ap (λ (r : Result Client Fault). settled (client_of h) r) m);
      heard_not = λ term own g h x f e m. rw (← e) (sym m);
    }

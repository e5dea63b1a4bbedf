mod ReliesLemmas
mod BeyondLemmas
mod EchoLemmas

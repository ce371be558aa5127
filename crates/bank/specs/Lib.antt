pub mod OneChain

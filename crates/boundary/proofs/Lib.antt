pub mod CallsTied
